use Rattle.std.specs.Prelude.{◌≡◌, ◌≢◌, ℕ, Some, None, cond, true, false}
use Rattle.std.specs.Ordering.{nat_cmp, eq_by_cmp}
use Rattle.std.specs.Cmp.{nat_cmp_total, unsigned_tied}
use Rattle.std.specs.FinMap as map
use Rattle.std.proofs.Common.{ap, sym, ◌∙◌, inl, inr}
use Rattle.std.proofs.lemmas.Bool.{eq-eqb}
use Rattle.std.proofs.lemmas.Bool.Decides.{eqb_tells}
use Rattle.egt_board.specs.declared.man.Side.{Side}
use Rattle.egt_board.specs.declared.man.Man.{Man}

-- a placement: what stands on which square
abbrev pub Placement : Type 0
Placement = map.FinMap nat_cmp Man

-- the man stands on the square
abbrev pub Stands : Placement → ℕ → Man → Type 0
Stands men s man = map.get men s ≡ Some man

-- nothing stands on the square
abbrev pub IsFree : Placement → ℕ → Type 0
IsFree men s = map.get men s ≡ None

-- a man of this side stands on the square
pub record IsOccupiedBy (men : Placement) (s : ℕ) (side : Side) : Type 0 where
  pub man : Man
  pub stands : Stands men s man
  pub theirs : man.side ≡ side

-- one man stands on a square
pub one_man : (men : Placement) (s : ℕ) (a b : Man) → Stands men s a → Stands men s b → a ≡ b
one_man men s a b p q = let both : Some a ≡ Some b = sym p ∙ q in cc

-- placements with the same men on each square are the same
pub same_men : (m n : Placement) → ((q : ℕ) → map.get m q ≡ map.get n q) → m ≡ n
same_men m n = map.same_map nat_cmp_total map.nat_cmp-IsAntisymmetric m n

pub tied : (q k : ℕ) → q ≡ k → eq_by_cmp nat_cmp q k ≡ true
tied q k e = unsigned_tied q k ∙ eq-eqb q k e

pub untied : (q k : ℕ) → q ≢ k → eq_by_cmp nat_cmp q k ≡ false
untied q k other = unsigned_tied q k ∙ elim (eqb_tells q k) [ inl h ↦ absurd (other h.1) | inr h ↦ h.0 ]

pub get-insert_same : (m : Placement) (s : ℕ) (man : Man) (q : ℕ) → q ≡ s → map.get (map.insert m s man) q ≡ Some man
get-insert_same m s man q e = map.get-insert nat_cmp_total m s man q ∙ ap (λ b. cond b (Some man) (map.get m q)) (tied q s e)

pub get-insert_other : (m : Placement) (s : ℕ) (man : Man) (q : ℕ) → q ≢ s → map.get (map.insert m s man) q ≡ map.get m q
get-insert_other m s man q other = map.get-insert nat_cmp_total m s man q ∙ ap (λ b. cond b (Some man) (map.get m q)) (untied q s other)

pub get-remove_same : (m : Placement) (s q : ℕ) → q ≡ s → map.get (map.remove m s) q ≡ None
get-remove_same m s q e = map.get-remove nat_cmp_total m s q ∙ ap (λ b. cond b None (map.get m q)) (tied q s e)

pub get-remove_other : (m : Placement) (s q : ℕ) → q ≢ s → map.get (map.remove m s) q ≡ map.get m q
get-remove_other m s q other = map.get-remove nat_cmp_total m s q ∙ ap (λ b. cond b None (map.get m q)) (untied q s other)
