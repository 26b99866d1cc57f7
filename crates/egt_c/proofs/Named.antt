-- Men that are named one after another.
use Rattle.std.proofs.Common.{◌≡◌, ℕ, zero, suc, ◌<◌, List, [], ◌∷◌, ◌++◌, length, take, get_or, Option, Some, None}
use Rattle.std.proofs.Common.{IfSome, refl, sym, ap, ◌∙◌, subst, arith}
use Rattle.egt_c.specs.Prelude.{Man, EgtbMan, man_of, men_of, joined}

abbrev unwrapped : Option (List (Man × ℕ)) → List (Man × ℕ)
unwrapped None = []
unwrapped (Some xs) = xs

no_list : (xs : List (Man × ℕ)) → ◌≡◌ {A = Option (List (Man × ℕ))} None (Some xs) → ⊥
no_list xs e = subst (λ (o : Option (List (Man × ℕ))). IfSome o (λ _. ⊥)) e tt

with_head : (o : Option (Man × ℕ)) (rest : Option (List (Man × ℕ))) (so_far : List (Man × ℕ)) → joined o rest ≡ Some so_far
    → (m : Man × ℕ) × (ms : List (Man × ℕ)) × (o ≡ Some m) × (rest ≡ Some ms) × (so_far ≡ m ∷ ms)
with_head (Some m) (Some ms) so_far e = (m, ms, refl, refl, sym (ap unwrapped e))
with_head (Some m) None so_far e = absurd (no_list so_far e)
with_head None (Some ms) so_far e = absurd (no_list so_far e)
with_head None None so_far e = absurd (no_list so_far e)

joined_none : (o : Option (Man × ℕ)) → joined o None ≡ None
joined_none None = refl
joined_none (Some m) = refl

-- one man more
pub one_named : (gs : List EgtbMan) (i : ℕ) (d : EgtbMan) (m : Man × ℕ) (so_far : List (Man × ℕ)) → i < length gs → man_of (get_or gs i d) ≡ Some m → men_of (take i gs) ≡ Some so_far
    → men_of (take (suc i) gs) ≡ Some (so_far ++ m ∷ [])
one_named [] i d m so_far inside named before = absurd (omega (arith, inside))
one_named (x ∷ xs) zero d m so_far inside named before =
    ap (λ (o : Option (Man × ℕ)). joined o (Some [])) named ∙ ap (λ (zs : List (Man × ℕ)). Some (zs ++ m ∷ [])) (ap unwrapped before)
one_named (x ∷ xs) (suc i) d m so_far inside named before =
    let split = with_head (man_of x) (men_of (take i xs)) so_far before in
    let more : men_of (take (suc i) xs) ≡ Some (split.1 ++ m ∷ []) = one_named xs i d m split.1 (omega (arith, inside)) named split.3 in
    ap (λ (o : Option (Man × ℕ)). joined o (men_of (take (suc i) xs))) split.2 ∙ ap (joined (Some split.0)) more ∙ ap (λ (zs : List (Man × ℕ)). Some (zs ++ m ∷ [])) (sym split.4)

-- where one names nothing, the list does not
pub none_named : (gs : List EgtbMan) (i : ℕ) (d : EgtbMan) → i < length gs → man_of (get_or gs i d) ≡ None → men_of gs ≡ None
none_named [] i d inside none = absurd (omega (arith, inside))
none_named (x ∷ xs) zero d inside none = ap (λ (o : Option (Man × ℕ)). joined o (men_of xs)) none
none_named (x ∷ xs) (suc i) d inside none = ap (joined (man_of x)) (none_named xs i d (omega (arith, inside)) none) ∙ joined_none (man_of x)
