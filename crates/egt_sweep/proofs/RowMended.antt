-- A row whose entries are put where they are not due.
use Rattle.std.proofs.Common.{◌≡◌, ◌≢◌, ◌∙◌, ℕ, ◌+◌, ◌%◌, ◌<◌, List, max, min, arith, sym, ap, inl, inr, slice_index}
use Rattle.std.proofs.Common.{subst}
use Rattle.egt_sweep.specs.FillPrelude.{bit_at, cases_eq, bit_at-lt, SquareSet, code_of, number_of, kind_digits}
use Rattle.egt_sweep.specs.FillPrelude.{kind_less, number_in, size_of, due_score, TableValue, column_of, IsRightAtOf}
use Rattle.egt_sweep.specs.FillPrelude.{IsRightEndOf, due_in, column_score, entry_score, Part, AreEnded, IsCodeOf}
use Rattle.egt_sweep.specs.FillPrelude.{IsLaneOf, IsMendedAt, IsPutAt, IsRightRow, IsRowSeen, IsShelf, Shelf}
use Rattle.egt_sweep.proofs.PutEntries.{end_stays, mended_after, put_stays, widened}
use Rattle.egt_sweep.proofs.ShelfLanes.{one_digit}

-- entries that are due, and entries at an end
right_of : (part : Part) (t : TableValue) (i score zeroing : ℕ) → score ≢ 0 → IsPutAt part t i (due_in part score) (due_score zeroing) → IsRightAtOf part t i score zeroing
right_of h0 t i score zeroing can put = grind arith

ended_of : (part : Part) (t : TableValue) (i score zeroing : ℕ) → score ≡ 0 → IsRightEndOf part t i → IsRightAtOf part t i score zeroing
ended_of h0 t i score zeroing h5 end = grind arith

bit_one : (n i : ℕ) → bit_at n i ≢ 0 → bit_at n i ≡ 1
bit_one n i some = let few = bit_at-lt n i in omega (arith, few, some)

-- nothing is put where all is due
pub due_row : (part : Part) (t : TableValue) (shelf : Shelf) (scores zeroing : List ℕ) (ended wrong ends : SquareSet) → IsRowSeen part t shelf scores zeroing ended wrong ends → AreEnded part t shelf ended
    → ((i : ℕ) → bit_at wrong.bits i ≡ 0) → ((i : ℕ) → bit_at ends.bits i ≡ 0) → IsRightRow part t shelf scores zeroing
due_row part t shelf scores zeroing ended wrong ends seen before no_wrong no_ends digit below some = elim (cases_eq (slice_index scores b) 0) [
  | inl zero ↦ ended_of part t code (slice_index scores b) (slice_index zeroing b) zero (before digit below (bit_one ended.bits b (λ none. let has = seen.end digit below some zero none in let no = no_ends b in absurd (omega (arith, has, no)))))
  | inr can ↦ right_of part t code (slice_index scores b) (slice_index zeroing b) can (seen.due digit below some can (no_wrong b))
]
  where
    b : ℕ
    b = digit + kind_less shelf.men.last.kind

    code : ℕ
    code = code_of t.class (number_in t.class shelf.number shelf.side digit)

module _ (part : Part) (old mid new : TableValue) (shelf : Shelf) (is : IsShelf old.class shelf) (numbers : (n : ℕ) → n < size_of old.class → number_of old.class (code_of old.class n) ≡ n)
    (scores zeroing : List ℕ) (ended wrong ends all : SquareSet) (seen : IsRowSeen part old shelf scores zeroing ended wrong ends) (before : AreEnded part old shelf ended)
    (all_is : (i : ℕ) → bit_at all.bits i ≡ max (bit_at ended.bits i) (bit_at ends.bits i)) (apart : (i : ℕ) → min (bit_at wrong.bits i) (bit_at all.bits i) ≡ 0)
    (first : IsMendedAt part (IsLaneOf old.class shelf ends) old mid) (ended_mid : AreEnded part mid shelf ends)
    (later : IsMendedAt part (IsLaneOf mid.class shelf wrong) mid new) where
  second : IsMendedAt part (IsLaneOf old.class shelf wrong) mid new
  second = subst (λ c. IsMendedAt part (IsLaneOf c shelf wrong) mid new) first.class later

  pub row_mended : IsMendedAt part (IsCodeOf old.class shelf) old new
  row_mended = grind (arith, mended_after, widened, second)

  same_class : new.class ≡ old.class
  same_class = second.class ∙ first.class

  code : ℕ → ℕ
  code digit = code_of old.class (number_in old.class shelf.number shelf.side digit)

  place : ℕ → ℕ
  place digit = digit + kind_less shelf.men.last.kind

  not_lane : (lanes : SquareSet) (digit : ℕ) → digit < kind_digits shelf.men.last.kind → bit_at lanes.bits (place digit) ≡ 0 → ¬ IsLaneOf old.class shelf lanes (code digit)
  unfolding code place
  not_lane lanes digit below none lane =
      let same = one_digit old.class shelf is numbers digit lane.0 below lane.1 lane.3 in
      let has = lane.2 in
      let here = ap (λ d. bit_at lanes.bits (d + kind_less shelf.men.last.kind)) same in
      absurd (omega (arith, here, has, none))

  -- the score of a lane that neither has stays
  score_kept : (digit : ℕ) → digit < kind_digits shelf.men.last.kind → bit_at ends.bits (place digit) ≡ 0 → bit_at wrong.bits (place digit) ≡ 0 → column_score new (column_of part) (code digit) ≡ column_score old (column_of part) (code digit)
  score_kept digit below no_end no_wrong =
      ap (λ n. entry_score (column_of part) n) (ap (λ n. n % 256)
      ((elim (second.same (column_of part) (code digit)) [ inl same ↦ same | inr lane ↦ absurd (not_lane wrong digit below no_wrong lane) ])
      ∙ (elim (first.same (column_of part) (code digit)) [ inl same ↦ same | inr lane ↦ absurd (not_lane ends digit below no_end lane) ])))

  end_there : (digit : ℕ) → digit < kind_digits shelf.men.last.kind → bit_at all.bits (place digit) ≡ 1 → IsRightEndOf part new (code digit)
  unfolding code place
  end_there digit below has =
      let here = all_is (place digit) in
      let other = apart (place digit) in
      end_stays part mid new (IsLaneOf old.class shelf wrong) (code digit) second (not_lane wrong digit below (omega (arith, other, has)))
      (elim (cases_eq (bit_at ends.bits (place digit)) 0) [
        | inl none ↦
            end_stays part old mid (IsLaneOf old.class shelf ends) (code digit) first (not_lane ends digit below none) (before digit below (omega (arith, here, has, none)))
        | inr some ↦
            subst (λ c. IsRightEndOf part mid (code_of c (number_in c shelf.number shelf.side digit))) first.class (ended_mid digit below (bit_one ends.bits (place digit) some))
      ])

  pub row_ended : AreEnded part new shelf all
  unfolding code place
  row_ended digit below has = subst (λ c. IsRightEndOf part new (code_of c (number_in c shelf.number shelf.side digit))) (sym same_class) (end_there digit below has)

  module _ (put : (digit : ℕ) → digit < kind_digits shelf.men.last.kind → bit_at wrong.bits (digit + kind_less shelf.men.last.kind) ≡ 1 →
      IsPutAt part new (code_of mid.class (number_in mid.class shelf.number shelf.side digit)) (due_in part (slice_index scores (digit + kind_less shelf.men.last.kind))) (due_score (slice_index zeroing (digit + kind_less shelf.men.last.kind)))) where
    put_there : (digit : ℕ) → digit < kind_digits shelf.men.last.kind → bit_at wrong.bits (place digit) ≡ 1 → IsPutAt part new (code digit) (due_in part (slice_index scores (place digit))) (due_score (slice_index zeroing (place digit)))
    unfolding code place
    put_there digit below has = subst (λ c. IsPutAt part new (code_of c (number_in c shelf.number shelf.side digit)) (due_in part (slice_index scores (place digit))) (due_score (slice_index zeroing (place digit)))) first.class (put digit below has)

    right_there : (digit : ℕ) → digit < kind_digits shelf.men.last.kind → column_score new (column_of part) (code digit) ≢ 0 → IsRightAtOf part new (code digit) (slice_index scores (place digit)) (slice_index zeroing (place digit))
    unfolding code place
    right_there digit below some = elim (cases_eq (bit_at wrong.bits (place digit)) 0) [
      | inr wrong_here ↦
          let has = bit_one wrong.bits (place digit) wrong_here in
          right_of part new (code digit) (slice_index scores (place digit)) (slice_index zeroing (place digit)) (seen.moving digit below has) (put_there digit below has)
      | inl due_here ↦ elim (cases_eq (slice_index scores (place digit)) 0) [
        | inl zero ↦ ended_of part new (code digit) (slice_index scores (place digit)) (slice_index zeroing (place digit)) zero (end_there digit below (bit_one all.bits (place digit) (λ none.
            let here = all_is (place digit) in
            let no_end : bit_at ends.bits (place digit) ≡ 0 = omega (arith, here, none) in
            let no_ended : bit_at ended.bits (place digit) ≡ 0 = omega (arith, here, none) in
            let has = seen.end digit below (λ e. some (score_kept digit below no_end due_here ∙ e)) zero no_ended in
            absurd (omega (arith, has, no_end)))))
        | inr can ↦
            let no_end : bit_at ends.bits (place digit) ≡ 0 = elim (cases_eq (bit_at ends.bits (place digit)) 0) [ inl none ↦ none | inr one ↦ absurd (can (seen.still digit below (bit_one ends.bits (place digit) one))) ] in
            right_of part new (code digit) (slice_index scores (place digit)) (slice_index zeroing (place digit)) can
            (put_stays part mid new (IsLaneOf old.class shelf wrong) (code digit) (due_in part (slice_index scores (place digit))) (due_score (slice_index zeroing (place digit))) second (not_lane wrong digit below due_here)
            (put_stays part old mid (IsLaneOf old.class shelf ends) (code digit) (due_in part (slice_index scores (place digit))) (due_score (slice_index zeroing (place digit))) first (not_lane ends digit below no_end)
            (seen.due digit below (λ e. some (score_kept digit below no_end due_here ∙ e)) can due_here)))
      ]
    ]

    pub row_right : IsRightRow part new shelf scores zeroing
    unfolding code place
    row_right digit below = subst (λ c. column_score new (column_of part) (code_of c (number_in c shelf.number shelf.side digit)) ≢ 0 → IsRightAtOf part new (code_of c (number_in c shelf.number shelf.side digit)) (slice_index scores (place digit)) (slice_index zeroing (place digit))) (sym same_class) (right_there digit below)
