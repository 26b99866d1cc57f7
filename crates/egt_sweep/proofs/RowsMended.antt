-- Rows that stay right while others are put.
use Rattle.std.proofs.Common.{◌≡◌, ◌≢◌, ◌∙◌, ℕ, ◌+◌, ◌*◌, ◌%◌, ◌<◌, List, [], length, arith, sym, ap, inl, inr}
use Rattle.std.proofs.Common.{slice_index, slice_index_or, slice_set, subst}
use Rattle.egt_sweep.specs.FillPrelude.{cases_eq, get_or-set_other, get_or-set_same, side_number, Kind}
use Rattle.egt_sweep.specs.FillPrelude.{SquareSet, code_of, number_of, kind_digits, kind_less, number_in, size_of}
use Rattle.egt_sweep.specs.FillPrelude.{TableValue, entries_of, Column, ShelfMen, men_on, AreShelvesOf, square_in}
use Rattle.egt_sweep.specs.FillPrelude.{byte_score, reach_score, column_of, IsRightAtOf, IsRightEndOf, column_score}
use Rattle.egt_sweep.specs.FillPrelude.{entry_score, Part, Values, Reach, AllEnded, AreEnded, AreRightRows, IsCodeIn}
use Rattle.egt_sweep.specs.FillPrelude.{IsCodeOf, IsMendedAt, IsRightRow, IsShelf, no_squares, shelf_at, Shelf}
use Rattle.egt_table.specs.declared.column.Column.TheVariants as columns
use Rattle.egt_sweep.proofs.PutEntries.{end_stays, mended_after}
use Rattle.egt_sweep.proofs.ShelfLanes.{number_within}

-- numbers of different shelves differ
one_shelf : (kind : Kind) (m n s y z : ℕ) → y < kind_digits kind → z < kind_digits kind → m * (2 * kind_digits kind) + s + 2 * y ≡ n * (2 * kind_digits kind) + s + 2 * z → m ≡ n
one_shelf kind m n s y z y_in z_in e = grind arith

-- what is right stays where nothing is put
right_at_stays : (part : Part) (old new : TableValue) (At : ℕ → Type 0) (i score zeroing : ℕ) → IsMendedAt part At old new → ¬ At i → IsRightAtOf part old i score zeroing → IsRightAtOf part new i score zeroing
right_at_stays part old new At i score zeroing mended other = of_part part mended
  where
    of_part : (p : Part) → IsMendedAt p At old new → IsRightAtOf p old i score zeroing → IsRightAtOf p new i score zeroing
    of_part Values m right =
        let kept : (column : Column) → slice_index (entries_of column new) i ≡ slice_index (entries_of column old) i = λ column. elim (m.same column i) [ inl same ↦ same | inr is ↦ absurd (other is) ] in
        record {
          due = λ can. let due = right.due can in (ap (λ n. byte_score (n % 256)) (kept columns.Mate) ∙ due.0, ap (λ n. byte_score (n % 256)) (kept columns.Zeroing) ∙ due.1);
          end = λ zero. end_stays Values old new At i m other (right.end zero);
        }
    of_part Reach m right =
        let kept : slice_index (entries_of columns.Reach new) i ≡ slice_index (entries_of columns.Reach old) i = elim (m.same columns.Reach i) [ inl same ↦ same | inr is ↦ absurd (other is) ] in
        record {
          due = λ can. ap (λ n. reach_score (n % 256)) kept ∙ right.due can;
          end = λ zero. end_stays Reach old new At i m other (right.end zero);
        }

module _ (part : Part) (mid new : TableValue) (shelves : Shelf) (are : AreShelvesOf shelves.targeted mid.class shelves.men shelves.number)
    (numbers : (n : ℕ) → n < size_of mid.class → number_of mid.class (code_of mid.class n) ≡ n) where
  pub row_is : (x : ℕ) → x < kind_digits shelves.men.first.kind → IsShelf mid.class (shelf_at shelves x)
  row_is x x_in = record { of = (are x x_in).0; within = (are x x_in).1 }

  module _ (d : ℕ) (d_in : d < kind_digits shelves.men.first.kind) (mended : IsMendedAt part (IsCodeOf mid.class (shelf_at shelves d)) mid new) where
    not_code : (x y : ℕ) → x < kind_digits shelves.men.first.kind → x ≢ d → y < kind_digits shelves.men.last.kind → ¬ IsCodeOf mid.class (shelf_at shelves d) (code_of mid.class (number_in mid.class (shelves.number + x) shelves.side y))
    not_code x y x_in other y_in of =
        let c = mid.class in
        let here = row_is x x_in in
        let wide = here.of.0.len in
        let number : number_in c (shelves.number + x) shelves.side y ≡ number_in c (shelves.number + d) shelves.side of.0 =
        sym (numbers (number_in c (shelves.number + x) shelves.side y) (number_within c (shelf_at shelves x) here y y_in)) ∙ ap (number_of c) of.2 ∙ numbers (number_in c (shelves.number + d) shelves.side of.0) (number_within c (shelf_at shelves d) (row_is d d_in) of.0 of.1) in
        let shelf : shelves.number + x ≡ shelves.number + d =
        one_shelf shelves.men.last.kind (shelves.number + x) (shelves.number + d) (side_number shelves.side) y of.0 y_in of.1
        (subst (λ p. (shelves.number + x) * (2 * p) + side_number shelves.side + 2 * y ≡ (shelves.number + d) * (2 * p) + side_number shelves.side + 2 * of.0) wide number) in
        other (omega (arith, shelf))

    pub right_stays : (x : ℕ) → x < kind_digits shelves.men.first.kind → x ≢ d → (scores zeroing : List ℕ) → IsRightRow part mid (shelf_at shelves x) scores zeroing → IsRightRow part new (shelf_at shelves x) scores zeroing
    right_stays x x_in other scores zeroing right y y_in =
        subst (λ c. column_score new (column_of part) (code_of c (number_in c (shelves.number + x) shelves.side y)) ≢ 0 → IsRightAtOf part new (code_of c (number_in c (shelves.number + x) shelves.side y)) (slice_index scores (y + kind_less shelves.men.last.kind)) (slice_index zeroing (y + kind_less shelves.men.last.kind))) (sym mended.class)
        (λ some.
        let code = code_of mid.class (number_in mid.class (shelves.number + x) shelves.side y) in
        let apart = not_code x y x_in other y_in in
        let kept : column_score new (column_of part) code ≡ column_score mid (column_of part) code = elim (mended.same (column_of part) code) [
          | inl same ↦ ap (λ n. entry_score (column_of part) (n % 256)) same
          | inr of ↦ absurd (apart of)
        ] in
        right_at_stays part mid new (IsCodeOf mid.class (shelf_at shelves d)) code (slice_index scores (y + kind_less shelves.men.last.kind)) (slice_index zeroing (y + kind_less shelves.men.last.kind)) mended apart (right y y_in (λ e. some (kept ∙ e))))

    pub ended_stays : (x : ℕ) → x < kind_digits shelves.men.first.kind → x ≢ d → (set : SquareSet) → AreEnded part mid (shelf_at shelves x) set → AreEnded part new (shelf_at shelves x) set
    ended_stays x x_in other set ended y y_in has =
        subst (λ c. IsRightEndOf part new (code_of c (number_in c (shelves.number + x) shelves.side y))) (sym mended.class) (end_stays part mid new (IsCodeOf mid.class (shelf_at shelves d)) (code_of mid.class (number_in mid.class (shelves.number + x) shelves.side y)) mended (not_code x y x_in other y_in) (ended y y_in has))

    -- one row more is put
    module _ (old : TableValue) (row : Shelf) (same : row ≡ shelf_at shelves d) (ended : List SquareSet) (long : length ended ≡ 64) (place : ℕ) (at : place ≡ d + kind_less shelves.men.first.kind) (set : SquareSet) (scores zeroing : List (List ℕ)) where
      pub more_mended : IsMendedAt part (IsCodeIn old.class shelves) old mid → IsMendedAt part (IsCodeIn old.class shelves) old new
      more_mended before = mended_after part (IsCodeIn old.class shelves) (IsCodeOf mid.class (shelf_at shelves d)) old mid new before mended
          (λ i of. (d, d_in, subst (λ c. IsCodeOf c (shelf_at shelves d) i) before.class of))

      pub more_ended : AllEnded part mid shelves ended → AreEnded part new row set → AllEnded part new shelves (slice_set ended place set)
      more_ended before here x x_in = elim (cases_eq x d) [
        | inl is ↦
            let there : x + kind_less shelves.men.first.kind ≡ place = omega (arith, is, at) in
            let on_board = square_in shelves.men.first.kind x x_in in
            let stands : slice_index_or (slice_set ended place set) (x + kind_less shelves.men.first.kind) no_squares ≡ set =
            ap (λ k. slice_index_or (slice_set ended place set) k no_squares) there ∙ get_or-set_same ended place set no_squares (omega (arith, there, on_board, long)) in
            subst (λ (s : SquareSet). AreEnded part new (shelf_at shelves x) s) (sym stands)
            (subst (λ k. AreEnded part new (shelf_at shelves k) set) (sym is) (subst (λ (r : Shelf). AreEnded part new r set) same here))
        | inr other ↦
            let apart : x + kind_less shelves.men.first.kind ≢ place = λ e. other (omega (arith, e, at)) in
            subst (λ (s : SquareSet). AreEnded part new (shelf_at shelves x) s) (sym (get_or-set_other ended place (x + kind_less shelves.men.first.kind) set no_squares apart))
            (ended_stays x x_in other (slice_index_or ended (x + kind_less shelves.men.first.kind) no_squares) (before x x_in))
      ]

      pub more_right : AreRightRows part mid shelves scores zeroing d → IsRightRow part new row (slice_index_or scores place []) (slice_index_or zeroing place []) → AreRightRows part new shelves scores zeroing (d + 1)
      more_right before here x under = elim (cases_eq x d) [
        | inl is ↦
            let there : place ≡ x + kind_less shelves.men.first.kind = omega (arith, is, at) in
            subst (λ k. IsRightRow part new (shelf_at shelves x) (slice_index_or scores k []) (slice_index_or zeroing k [])) there
            (subst (λ k. IsRightRow part new (shelf_at shelves k) (slice_index_or scores place []) (slice_index_or zeroing place [])) (sym is)
            (subst (λ (r : Shelf). IsRightRow part new r (slice_index_or scores place []) (slice_index_or zeroing place [])) same here))
        | inr other ↦
            right_stays x (omega (arith, under, other, d_in)) other (slice_index_or scores (x + kind_less shelves.men.first.kind) []) (slice_index_or zeroing (x + kind_less shelves.men.first.kind) []) (before x (omega (arith, under, other)))
      ]

-- the shelf of a digit
pub shelf_same : (shelves : Shelf) (n : ℕ) (m : ShelfMen) (d on : ℕ) → n ≡ d → m ≡ men_on shelves.men on → on ≡ d + kind_less shelves.men.first.kind
    → ◌≡◌ {A = Shelf} (record { number = shelves.number + n; men = m; side = shelves.side; targeted = shelves.targeted }) (shelf_at shelves d)
shelf_same shelves n m d on same is at = grind (arith, men_on)

-- ---- shelves stay right while entries elsewhere are put

module _ (part : Part) (old new : TableValue) (At : ℕ → Type 0) (mended : IsMendedAt part At old new) (shelves : Shelf)
    (apart : (x y : ℕ) → x < kind_digits shelves.men.first.kind → y < kind_digits shelves.men.last.kind → ¬ At (code_of old.class (number_in old.class (shelves.number + x) shelves.side y))) where
  pub rows_stay : (scores zeroing : List (List ℕ)) → AreRightRows part old shelves scores zeroing (kind_digits shelves.men.first.kind) → AreRightRows part new shelves scores zeroing (kind_digits shelves.men.first.kind)
  rows_stay scores zeroing right x x_in y y_in =
      let a = x + kind_less shelves.men.first.kind in
      let b = y + kind_less shelves.men.last.kind in
      subst (λ c. column_score new (column_of part) (code_of c (number_in c (shelves.number + x) shelves.side y)) ≢ 0 → IsRightAtOf part new (code_of c (number_in c (shelves.number + x) shelves.side y)) (slice_index (slice_index_or scores a []) b) (slice_index (slice_index_or zeroing a []) b)) (sym mended.class)
      (λ some.
      let code = code_of old.class (number_in old.class (shelves.number + x) shelves.side y) in
      let kept : column_score new (column_of part) code ≡ column_score old (column_of part) code = elim (mended.same (column_of part) code) [
        | inl same ↦ ap (λ n. entry_score (column_of part) (n % 256)) same
        | inr at ↦ absurd (apart x y x_in y_in at)
      ] in
      right_at_stays part old new At code (slice_index (slice_index_or scores a []) b) (slice_index (slice_index_or zeroing a []) b) mended (apart x y x_in y_in) (right x x_in y y_in (λ e. some (kept ∙ e))))

  pub all_ended_stay : (ended : List SquareSet) → AllEnded part old shelves ended → AllEnded part new shelves ended
  all_ended_stay ended before x x_in y y_in has =
      subst (λ c. IsRightEndOf part new (code_of c (number_in c (shelves.number + x) shelves.side y))) (sym mended.class)
      (end_stays part old new At (code_of old.class (number_in old.class (shelves.number + x) shelves.side y)) mended (apart x y x_in y_in) (before x x_in y y_in has))
