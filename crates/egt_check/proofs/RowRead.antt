-- The entries of a shelf, read by the last man's square.
use Rattle.std.proofs.Common.{◌≡◌, ℕ, ◌+◌, ◌-◌, ◌*◌, ◌%◌, ◌<◌, ◌≤◌, ◌⊎◌, Bool, true, false, List, take, drop, arith}
use Rattle.std.proofs.Common.{sym, ap, ◌∙◌, slice_index}
use Rattle.egt_check.specs.Prelude.{false≢true, kind_digits, kind_less, has_target, code_plain, entry_score, pawn_digits}
use Rattle.egt_check.specs.Prelude.{side_number, material_of, column_score, code_in_shelf, pawn_of_digits, piece_digits}
use Rattle.egt_check.specs.Prelude.{Side, code_of, IsShelf, is_pawn, Column, bit_few, bit_of, piece_at, side_few}
use Rattle.egt_check.specs.Prelude.{places, IsWithin, number_in, ShelfMen, TableValue, entries_of, IsShelfRow, places_is}
use Rattle.egt_table.specs.declared.column.Column.TheVariants as columns

-- no position has no score
pub no_score : (column : Column) → entry_score column 0 ≡ 0
no_score column = grind (arith, columns.Mate, columns.Zeroing, columns.Reach)

-- ---- rows of either layout

module _ (t : TableValue) (column : Column) (men : ShelfMen) (shelf : ℕ) (side : Side) (is : IsShelf t.class shelf men) (entries loaded row : List ℕ) (entries_are : entries ≡ entries_of column t)
    (scored : (s : ℕ) → s < 64 → slice_index row s ≡ entry_score column (slice_index loaded s % 256)) where
  abbrev Row : Type 0
  Row = IsShelfRow t.class (column_score t column) men shelf side row

  -- a lane is the score of an entry
  lane : (s k code : ℕ) → s < 64 → slice_index loaded s ≡ slice_index entries k → k ≡ code → slice_index row s ≡ column_score t column code
  lane s k code s_in from at = scored s s_in ∙ ap (λ e. entry_score column (e % 256)) (from ∙ ap (λ (l : List ℕ). slice_index l k) entries_are ∙ ap (slice_index (entries_of column t)) at)

  none : (s : ℕ) → s < 64 → slice_index loaded s ≡ 0 → slice_index row s ≡ 0
  none s s_in from = scored s s_in ∙ ap (λ e. entry_score column (e % 256)) from ∙ no_score column

  module _ (targets : has_target (material_of t.class) ≡ false) (piece : List ℕ) (len first : ℕ) (len_is : len ≡ 2 * places t.class) (first_is : first ≡ shelf * len) (piece_is : piece ≡ take (first + len - first) (drop first entries)) where
    at_number : (s digit : ℕ) → s < 64 → digit < places t.class → slice_index loaded s ≡ slice_index piece (2 * digit + side_number side) → slice_index row s ≡ column_score t column (code_of t.class (number_in t.class shelf side digit))
    at_number s digit s_in below from =
        let few = side_few side in
        lane s (first + (2 * digit + side_number side)) (code_of t.class (number_in t.class shelf side digit)) s_in (from ∙ ap (λ (l : List ℕ). slice_index l (2 * digit + side_number side)) piece_is ∙ piece_at entries first len (2 * digit + side_number side) (omega arith))
        (place ∙ sym (code_plain t.class (number_in t.class shelf side digit) targets))
      where
        place : first + (2 * digit + side_number side) ≡ number_in t.class shelf side digit
        place = let from = first_is ∙ ap (λ k. shelf * k) len_is in omega arith

    -- of a piece, who stands on any square
    pub of_piece : is_pawn men.last.kind ≡ false → ((s : ℕ) → s < 64 → slice_index loaded s ≡ slice_index piece (2 * s + side_number side)) → Row
    of_piece kind lanes =
        let digits = piece_digits men.last.kind kind in record {
          digits = λ digit below.
              let square : digit + kind_less men.last.kind ≡ digit = omega (arith, digits.1) in
              ap (slice_index row) square ∙ at_number digit digit (omega (arith, below, digits.0)) (omega (arith, below, is.len)) (lanes digit (omega (arith, below, digits.0)));
          edges = λ pawn. absurd (false≢true (sym kind ∙ ap is_pawn pawn));
        }

    -- of a pawn, who stands on neither the first rank nor the last
    pub of_pawn : is_pawn men.last.kind ≡ true → ((s : ℕ) → 8 ≤ s → s < 56 → slice_index loaded s ≡ slice_index piece (2 * (s - 8) + side_number side)) → ((s : ℕ) → s < 64 → (s < 8) ⊎ (56 ≤ s) → slice_index loaded s ≡ 0) → Row
    of_pawn kind middle edge =
        let digits = pawn_digits men.last.kind kind in record {
          digits = λ digit below.
              let square : digit + kind_less men.last.kind ≡ digit + 8 = omega (arith, digits.2) in
              let back : digit + 8 - 8 ≡ digit = omega arith in
              ap (slice_index row) square
              ∙ at_number (digit + 8) digit (omega (arith, below, digits.1)) (omega (arith, below, is.len)) (middle (digit + 8) (omega arith) (omega (arith, below, digits.1)) ∙ ap (λ k. slice_index piece (2 * k + side_number side)) back);
          edges = λ pawn s s_in past. none s s_in (edge s s_in past);
        }

  -- of the class with targets
  module _ (targeted : Bool) (has : has_target (material_of t.class) ≡ true) (within : IsWithin t.class shelf) (piece : List ℕ) (first : ℕ) (first_is : first + bit_of targeted ≡ code_of t.class (shelf * (2 * places t.class)))
      (piece_is : piece ≡ take (first + 192 - first) (drop first entries)) where
    pub of_targets : ((s : ℕ) → 8 ≤ s → s < 56 → slice_index loaded s ≡ slice_index piece (4 * (s - 8) + 2 * side_number side + bit_of targeted)) → ((s : ℕ) → s < 64 → (s < 8) ⊎ (56 ≤ s) → slice_index loaded s ≡ 0) → Row
    of_targets middle edge =
        let few = side_few side in
        let bit : bit_of targeted < 2 = bit_few targeted in
        let len : kind_digits men.last.kind ≡ 48 = sym is.len ∙ places_is t.class has in
        let pawn = pawn_of_digits men.last.kind len in record {
          digits = λ digit below.
              let k : ℕ = 4 * digit + 2 * side_number side + bit_of targeted in
              let square : digit + kind_less men.last.kind ≡ digit + 8 = omega (arith, pawn.1) in
              let back : digit + 8 - 8 ≡ digit = omega arith in
              let s_in : digit + 8 < 56 = omega (arith, below, len) in
              let k_in : k < 192 = omega (arith, below, len, few, bit) in
              let from = middle (digit + 8) (omega arith) s_in ∙ ap (λ d. slice_index piece (4 * d + 2 * side_number side + bit_of targeted)) back in
              ap (slice_index row) square
              ∙ lane (digit + 8) (first + k) (code_of t.class (number_in t.class shelf side digit)) (omega (arith, s_in)) (from ∙ ap (λ (l : List ℕ). slice_index l k) piece_is ∙ piece_at entries first 192 k k_in) (place digit (omega (arith, below, len)));
          edges = λ pawn s s_in past. none s s_in (edge s s_in past);
        }
      where
        place : (digit : ℕ) → digit < 48 → first + (4 * digit + 2 * side_number side + bit_of targeted) ≡ code_of t.class (number_in t.class shelf side digit)
        place digit below =
            let few = side_few side in
            let number : number_in t.class shelf side digit ≡ shelf * (2 * places t.class) + (side_number side + 2 * digit) = omega arith in
            let on = code_in_shelf t.class shelf has within (side_number side + 2 * digit) (omega (arith, below, few)) in
            let code_there = ap (code_of t.class) number ∙ on in
            omega (arith, code_there, first_is)
