-- Entries without scores: no position has their code, so they are right.
use Rattle.std.proofs.Common.{◌≡◌, ℕ, ◌⊎◌, ◌∙◌, None, arith, inl, inr, sym}
use Rattle.egt_check.specs.Prelude.{Setup, Spells, IsIndex, IsVoid, IsTable, TableValue, Mate, Part, Values, Reach}
use Rattle.egt_check.specs.Prelude.{IsBlank, column_of, table_in, KeepsPart, Tables, entry_at, HasBytes, column_score}
use Rattle.egt_check.specs.Prelude.{score_at}
use Rattle.egt_check.proofs.AllJudged.{some_score}
use Rattle.egt_check.proofs.FirstRule.{void_judged}
use Rattle.egt_check.proofs.NearJudged.{void_kept}
use Rattle.egt_check.proofs.NearReading.{near_at, near_scores}
use Rattle.egt_check.proofs.QuietGiven.{low_score}

module _ (part : Part) (t : TableValue) (is_table : IsTable (table_in part t)) (bytes : HasBytes (table_in part t))
    (or_void : (i : ℕ) → ((p : Setup) × Spells t.class i p × IsIndex t.class p i) ⊎ IsVoid t.class i) (i : ℕ) (blank : IsBlank t (column_of part) i) where
  part_score : (part : Part) → IsTable (table_in part t) → HasBytes (table_in part t) → column_score t (column_of part) i ≡ score_at (table_in part t) Mate i
  part_score part is bytes = grind (arith, near_scores)

  is_void : IsVoid t.class i
  is_void = elim (or_void i) [
    | inr none ↦ none
    | inl spelled ↦
        let known = (bytes.alike i blank.below (λ none. none spelled.0 spelled.1.admissible spelled.2)).mate_known in
        let score = sym (low_score (entry_at (table_in part t) Mate i) known.low) ∙ sym (part_score part is_table bytes) ∙ blank.none in
        absurd (some_score (entry_at (table_in part t) Mate i) known.some known.other known.low score)
  ]

pub blank_kept : (part : Part) (tables : Tables) (t : TableValue) → IsTable (table_in part t) → HasBytes (table_in part t) → ((i : ℕ) → ((p : Setup) × Spells t.class i p × IsIndex t.class p i) ⊎ IsVoid t.class i)
    → (i : ℕ) → IsBlank t (column_of part) i → KeepsPart part tables t i
blank_kept Values tables t is bytes or_void i blank = λ metric. let none = is_void Values t is bytes or_void i blank in void_judged tables t i metric none None (bytes.void metric i blank.below none)
blank_kept Reach tables t is bytes or_void i blank =
    let none = is_void Reach t is bytes or_void i blank in
    void_kept tables t i none (let zero = bytes.void Mate i blank.below none in let read = near_at t i in omega (arith, zero, read))
