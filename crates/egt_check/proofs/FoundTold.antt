-- A table's entries, told by scores.
use Rattle.std.proofs.Common.{◌≡◌, ◌≢◌, ◌∙◌, ◌⊎◌, ℕ, ◌+◌, ◌-◌, ◌*◌, ◌/◌, ◌%◌, ◌<◌, ◌≤◌, ◌==◌, if◌then◌else◌, Bool, false, List, [], ◌∷◌}
use Rattle.std.proofs.Common.{Option, Some, None, IsSome, get_or, length, map, take, drop, slice_index, arith, refl, sym, ap, subst}
use Rattle.std.proofs.Common.{inl, inr}
use Rattle.std.proofs.lemmas.List.{length-drop, length-take-le}
use Rattle.egt_check.specs.Prelude.{cases_eq, cases_lt, MayStand, number_in, square_in, IsShelfOf, IsListed, HasColumn}
use Rattle.egt_check.specs.Prelude.{false≢true, get_or-map, has_target, code_plain, stand_with, TableValue, entries_of}
use Rattle.egt_check.specs.Prelude.{Kind, Side, Black, Stand, told}
use Rattle.egt_check.specs.Prelude.{Man, White, code_of, places, list_of, TellsMen, ShelfMen, IsRaised, Column, row_read}
use Rattle.egt_check.specs.Prelude.{material_of, kind_digits, entries_or_none, column_score, entry_score, IsToldEntry}
use Rattle.egt_check.specs.Prelude.{kind_less, IsShelfRow, IsToldFrom, TellColumn, TellsEntry, table_told, CodeScores}
use Rattle.egt_table.specs.declared.column.Column.TheVariants.{Mate, Zeroing, Reach}

-- an entry that is told
pub told_at : (column : Column) (scores : List ℕ) (code : ℕ) → told column 0 ≡ 0 → slice_index (map (told column) scores) code ≡ told column (slice_index scores code)
told_at column scores code none = subst (λ d. get_or (map (told column) scores) code d ≡ told column (get_or scores code 0)) none (get_or-map (told column) scores code 0)

-- its score
told_score : (column : Column) (scores : List ℕ) (code : ℕ) → told column 0 ≡ 0 → TellsEntry column (slice_index scores code) → entry_score column (slice_index (map (told column) scores) code % 256) ≡ slice_index scores code
told_score column scores code none tells = ap (λ n. entry_score column (n % 256)) (told_at column scores code none) ∙ tells

module _ (t : TableValue) (scores clocks : CodeScores) where
  pub mate_score : TellColumn Mate t.class scores → (code : ℕ) → column_score (table_told t scores (Some clocks)) Mate code ≡ slice_index scores.scores code
  mate_score tell code = told_score Mate scores.scores code refl (tell.tell code)

  pub zeroing_score : TellColumn Zeroing t.class clocks → (code : ℕ) → column_score (table_told t scores (Some clocks)) Zeroing code ≡ slice_index clocks.scores code
  zeroing_score tell code = told_score Zeroing clocks.scores code refl (tell.tell code)

  pub near_score : TellColumn Reach t.class scores → (code : ℕ) → column_score (table_told t scores None) Reach code ≡ slice_index scores.scores code
  near_score tell code = told_score Reach scores.scores code refl (tell.tell code)

-- a row of scores is one of the table's
pub rows_read : (targeted : Bool) (u : TableValue) (column : Column) (v : CodeScores) → v.class ≡ u.class → ((code : ℕ) → column_score u column code ≡ slice_index v.scores code) → (men : ShelfMen) (shelf : ℕ) (side : Side) → IsShelfOf targeted u.class shelf men
    → ((targeted : Bool) (c x y : ℕ) (stand : Stand) (side : Side) → TellsMen targeted c x stand side → TellsMen targeted c y stand side → x ≡ y)
    → ((targeted : Bool) (c code : ℕ) (stand : Stand) (side : Side) (man : Man) (s : ℕ) → TellsMen targeted c code stand side → IsListed (list_of stand) man s → MayStand man s)
    → (row : List ℕ) → IsShelfRow v.class (slice_index v.scores) men shelf side row → (s : ℕ) → s < 64 → IsRaised 0 (λ code. TellsMen targeted u.class code (stand_with men s) side) (column_score u column) (slice_index row s)
rows_read targeted u column v same score men shelf side is one pawns row read =
    let here = subst (λ c. IsShelfRow c (slice_index v.scores) men shelf side row) same read in
    row_read targeted u.class (column_score u column) men shelf side is one pawns row (record { digits = λ digit below. here.digits digit below ∙ sym (score _); edges = here.edges })

-- ---- entries that are put

module _ (column : Column) (scores : List ℕ) (start old new : TableValue) (first : ℕ) (entries : List ℕ) (from : IsToldFrom column scores start old) (are : (k : ℕ) → k < length entries → slice_index entries k ≡ told column (slice_index scores (first + k)))
    (class : new.class ≡ old.class) (there : (other : Column) → HasColumn other old → HasColumn other new) (columns_kept : (other : Column) → other ≢ column → entries_of other new ≡ entries_of other old) (reach : column ≢ Reach → new.reach ≡ old.reach)
    (here : (k : ℕ) → k < length entries → slice_index (entries_of column new) (first + k) ≡ slice_index entries k)
    (others : (i : ℕ) → (i < first) ⊎ (first + length entries ≤ i) → slice_index (entries_of column new) i ≡ slice_index (entries_of column old) i) where
  told_here : (i k : ℕ) → first + k ≡ i → k < length entries → IsToldEntry column scores new i
  told_here i k is below = subst (IsToldEntry column scores new) is (here k below ∙ are k below)

  told_still : (i : ℕ) → IsToldEntry column scores old i → IsToldEntry column scores new i
  told_still i was = elim (cases_lt i first) [
    | inl low ↦ others i (inl low) ∙ was
    | inr from ↦ elim (cases_lt i (first + length entries)) [
      | inl below ↦ told_here i (i - first) (omega (arith, from)) (omega (arith, from, below))
      | inr past ↦ others i (inr past) ∙ was
    ]
  ]

  -- what was told still is, and so are these
  pub put_told : IsToldFrom column scores start new × ((i : ℕ) → IsToldEntry column scores old i → IsToldEntry column scores new i) × ((i k : ℕ) → first + k ≡ i → k < length entries → IsToldEntry column scores new i)
  put_told = grind (arith, told_still, told_here)

pub one_told : (column : Column) (scores : List ℕ) (code entry : ℕ) → entry ≡ told column (slice_index scores code) → (k : ℕ) → k < length (entry ∷ []) → slice_index (entry ∷ []) k ≡ told column (slice_index scores (code + k))
one_told column scores code entry is k below = grind (arith, told, slice_index)

pub told_alike : (column : Column) (scores : List ℕ) (t : TableValue) → IsToldFrom column scores t t
told_alike column scores t = record { class = refl; there = λ other has. has; others = λ other apart. refl; reach = λ apart. refl; kept = λ i was. was }

-- as many as there are digits with either side to move
pub piece_long : (entries : List ℕ) (kind : Kind) (from len : ℕ) → length entries ≡ 128 → from ≡ 2 * kind_less kind → len ≡ 2 * kind_digits kind → length (take (from + len - from) (drop from entries)) ≡ len
piece_long entries kind from len long from_is len_is = grind (arith, length-take-le, drop, length-drop)

-- entries of a shelf with White to move and with Black in turn, where the numbers are the codes
module _ (column : Column) (scores : List ℕ) (c shelf : ℕ) (kind : Kind) (plain : has_target (material_of c) ≡ false) (white black entries : List ℕ)
    (whites : (k : ℕ) → k < kind_digits kind → slice_index white (k + kind_less kind) ≡ told column (slice_index scores (code_of c (number_in c shelf White k))))
    (blacks : (k : ℕ) → k < kind_digits kind → slice_index black (k + kind_less kind) ≡ told column (slice_index scores (code_of c (number_in c shelf Black k))))
    (in_turn : (i : ℕ) → i < 128 → slice_index entries i ≡ slice_index (if i % 2 == 0 then white else black) (i / 2)) where
  pub shelf_told : (k i : ℕ) → k < 2 * kind_digits kind → i ≡ 2 * kind_less kind + k → slice_index entries i ≡ told column (slice_index scores (shelf * (2 * places c) + k))
  shelf_told k i below is =
      let digit_in : k / 2 < kind_digits kind = omega (arith, below) in
      let s_in = square_in kind (k / 2) digit_in in
      let lane : i / 2 ≡ k / 2 + kind_less kind = omega (arith, is) in
      let of_rows = in_turn i (omega (arith, is, s_in)) ∙ ap (slice_index (if i % 2 == 0 then white else black)) lane in
      elim (cases_eq (k % 2) 0) [
        | inl even ↦
            let first : i % 2 ≡ 0 = omega (arith, is, even) in
            let number : number_in c shelf White (k / 2) ≡ shelf * (2 * places c) + k = omega (arith, even) in
            of_rows ∙ ap (λ m. slice_index (if m == 0 then white else black) (k / 2 + kind_less kind)) first ∙ whites (k / 2) digit_in
            ∙ ap (λ n. told column (slice_index scores n)) (code_plain c (number_in c shelf White (k / 2)) plain ∙ number)
        | inr odd ↦
            let second : i % 2 ≡ 1 = omega (arith, is, odd) in
            let number : number_in c shelf Black (k / 2) ≡ shelf * (2 * places c) + k = omega (arith, odd) in
            of_rows ∙ ap (λ m. slice_index (if m == 0 then white else black) (k / 2 + kind_less kind)) second ∙ blacks (k / 2) digit_in
            ∙ ap (λ n. told column (slice_index scores n)) (code_plain c (number_in c shelf Black (k / 2)) plain ∙ number)
      ]

-- two tables with the same columns
pub same_value : (u v : TableValue) → u.class ≡ v.class → u.mate ≡ v.mate → u.zeroing ≡ v.zeroing → u.reach ≡ v.reach → u ≡ v
same_value u v ec em ez er = grind arith

pub some_told : (o : Option (List ℕ)) (entries : List ℕ) → IsSome o → entries_or_none o ≡ entries → o ≡ Some entries
some_told o entries has same = grind (arith, false≢true)

-- no score tells no entry
pub told_none : (column : Column) → told column 0 ≡ 0
told_none column = grind arith
