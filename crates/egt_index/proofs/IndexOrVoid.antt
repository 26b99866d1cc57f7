-- A code is the index of the position that it spells, or void.
use Rattle.std.proofs.Common.{ℕ, ◌<◌, ◌⊎◌, false, subst, inl, inr}
use Rattle.egt_index.specs.Prelude.{cases_eq, Decided, Setup, material_of, Spells, decided_spelled, Facts, IsIndex}
use Rattle.egt_index.specs.Prelude.{IsVoid}
use Rattle.egt_index.proofs.Classes.{spells_class}
use Rattle.egt_index.proofs.Exists.{index_exists, index_spelled, one_index}

-- it is the index of the position that it spells, or void
pub index_or_void : Facts → (c code : ℕ) → c < 36 → ((p : Setup) × Spells c code p × IsIndex c p code) ⊎ IsVoid c code
index_or_void facts c code c_in = of_spelled (decided_spelled (material_of c) code)
  where
    of_index : (p : Setup) → Spells c code p → (i : ℕ) × IsIndex c p i → ((p : Setup) × Spells c code p × IsIndex c p code) ⊎ IsVoid c code
    of_index p spells index = elim (cases_eq index.0 code) [
      | inl e ↦ inl (p, spells, subst (IsIndex c p) e index.1)
      | inr other ↦ inr (λ q ok is. other (one_index facts p c index.0 code spells.admissible index.1 (index_spelled facts q p c code ok is spells)))
    ]

    of_spelled : Decided ((p : Setup) × Spells c code p) → ((p : Setup) × Spells c code p × IsIndex c p code) ⊎ IsVoid c code
    of_spelled (inl s) = of_index s.0 s.1 (index_exists facts s.0 c false c_in s.1.admissible (spells_class c code s.0 s.1))
    of_spelled (inr none) = inr (λ q ok is. none (is.image, is.spells))
