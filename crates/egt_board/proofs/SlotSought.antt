-- A man sought among the slots of a board.
use Rattle.std.proofs.Common.{arith, ◌≡◌, ◌⊎◌, ℕ, List, [], ◌∷◌, Some, None, sym, ap, ◌∙◌, inl, inr}
use Rattle.egt_board.specs.Prelude.{nat_cmp, cases_eq, Man, Slot, listed, InOrder, find-below, first_half, second_half}
use Rattle.std.specs.FinMap as map
use Rattle.egt_board.proofs.Placed.{find-here, find-later}

-- one of the slots has the man on the square
unfoldable pub AnyHolds : List Slot → ℕ → Man → Type 0
AnyHolds [] s man = ⊥
AnyHolds (x ∷ xs) s man = (x ≡ Some (s, man)) ⊎ AnyHolds xs s man

pub holds_found : (xs : List Slot) (s : ℕ) (man : Man) → InOrder (listed xs) → AnyHolds xs s man → map.find nat_cmp s (listed xs) ≡ Some man
unfolding AnyHolds
holds_found [] s man sorted h = absurd h
holds_found (None ∷ xs) s man sorted (inl e) = absurd (cc)
holds_found (None ∷ xs) s man sorted (inr rest) = holds_found xs s man sorted rest
holds_found (Some e ∷ xs) s man sorted (inl h) =
    let square : e.0 ≡ s = cc in
    let same : e.1 ≡ man = cc in
    find-here s e.0 e.1 (listed xs) (sym square) ∙ ap Some same
holds_found (Some e ∷ xs) s man sorted (inr rest) =
    let found = holds_found xs s man (second_half _ _ sorted) rest in
    elim (cases_eq s e.0) [
      | inl same ↦
          let none : map.find nat_cmp s (listed xs) ≡ None = ap (λ q. map.find nat_cmp q (listed xs)) same ∙ find-below e.0 (listed xs) (first_half _ _ sorted) in
          let bad : None ≡ Some man = sym none ∙ found in absurd (cc)
      | inr other ↦ find-later s e.0 e.1 (listed xs) other ∙ found
    ]

pub found_holds : (xs : List Slot) (s : ℕ) (man : Man) → map.find nat_cmp s (listed xs) ≡ Some man → AnyHolds xs s man
unfolding AnyHolds
found_holds [] s man found = let bad : None ≡ Some man = found in absurd (cc)
found_holds (None ∷ xs) s man found = inr (found_holds xs s man found)
found_holds (Some e ∷ xs) s man found = elim (cases_eq s e.0) [
  | inl same ↦
      let both : Some e.1 ≡ Some man = sym (find-here s e.0 e.1 (listed xs) same) ∙ found in
      inl (pair e same both)
  | inr other ↦ inr (found_holds xs s man (sym (find-later s e.0 e.1 (listed xs) other) ∙ found))
]
  where
    pair : (e : ℕ × Man) → s ≡ e.0 → Some e.1 ≡ Some man → Some e ≡ Some (s, man)
    pair e same both = grind arith
