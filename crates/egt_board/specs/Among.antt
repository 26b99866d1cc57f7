-- Some element of a list.
use Rattle.std.proofs.Common.{◌≡◌, ℕ, zero, suc, ◌<◌, ◌⊎◌, inl, inr, refl, sym, subst, arith, List, ◌∷◌, length, get_or}
use Rattle.std.specs.List.{Any}

-- it is the first, or a later one
pub any_here : {A : Type 0} (P : A → Type 0) (x : A) (xs : List A) → P x → Any P (x ∷ xs)
any_here P x xs h = (0, x, omega arith, refl, h)

pub any_there : {A : Type 0} (P : A → Type 0) (x : A) (xs : List A) → Any P xs → Any P (x ∷ xs)
any_there P x xs h = (suc h.0, h.1, omega arith, h.3, h.4)

pub any_cons : {A : Type 0} (P : A → Type 0) (x : A) (xs : List A) → Any P (x ∷ xs) → P x ⊎ Any P xs
any_cons {A} P x xs found = go found.0 found.1 found.2 found.3 found.4
  where
    go : (k : ℕ) (y : A) → k < length (x ∷ xs) → get_or (x ∷ xs) k y ≡ y → P y → P x ⊎ Any P xs
    go zero y lt e h = inl (subst P (sym e) h)
    go (suc k) y lt e h = inr (k, y, omega arith, e, h)
