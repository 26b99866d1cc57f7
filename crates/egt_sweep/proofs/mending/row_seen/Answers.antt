use Rattle.std.proofs.Common.{◌≡◌, ◌≢◌, ◌∙◌, ℕ, ◌+◌, ◌<◌, arith, inl, inr, sym, slice_index, subst}
use Rattle.egt_sweep.specs.FillPrelude.{bit_at, cases_eq, code_of, kind_less, number_in, due_score, TableValue, Column}
use Rattle.egt_sweep.specs.FillPrelude.{Zeroing, column_of, due_in, column_score, score_at, Part, Values, square_in}
use Rattle.egt_sweep.specs.FillPrelude.{if_not, if_same, lane_is, IsPutAt, score_in}
use Rattle.egt_sweep.proofs.LanesPut.{same_there}
use Rattle.egt_sweep.proofs.mending.row_seen.Goals as goal

-- the part's columns have these scores
put_in : (part : Part) (t : TableValue) (code score clock : ℕ) → column_score t (column_of part) code ≡ score → (part ≡ Values → score_at t Zeroing code ≡ clock) → IsPutAt part t code score clock
put_in h0 t code score clock is clock_is = grind arith

pub returns : goal.returns
returns c =
    let t = c.args.table.now in
    let part = c.args.part in
    let shelf = c.args.shelf.now in
    let kind = shelf.men.last.kind in
    let scores = c.args.scores in
    let own = c.row-own.result in
    let own_is : (digit : ℕ) → (below : digit < _) → slice_index own (digit + kind_less kind) ≡ score_in part t shelf digit = λ digit below.
    let b_in = square_in kind digit below in
    subst (λ (column : Column). slice_index own (digit + kind_less kind) ≡ column_score t column (code_of t.class (number_in t.class shelf.number shelf.side digit))) c.column_of.ensures
    (lane_is shelf.targeted t c.column_of.result shelf.men shelf.number shelf.side c.requires.shelf.of c.codes_tell_turned_men.ensures.one digit (slice_index own (digit + kind_less kind)) below (c.row-own.ensures (digit + kind_less kind) b_in)) in
    let stands : (digit : ℕ) → (below : digit < _) → score_in part t shelf digit ≢ 0 → slice_index own (digit + kind_less kind) ≢ 0 = λ digit below some e. some (sym (own_is digit below) ∙ e) in
    let moves : (b : ℕ) → b < 64 → slice_index scores b ≢ 0 → bit_at c.lanes_of.result.bits b ≡ 1 = λ b b_in can. c.lanes_of.ensures b b_in ∙ if_not (slice_index scores b) 0 0 1 can in
    let stays : (b : ℕ) → b < 64 → slice_index scores b ≡ 0 → bit_at c.lanes_of.result.bits b ≡ 0 = λ b b_in zero. c.lanes_of.ensures b b_in ∙ if_same (slice_index scores b) 0 0 1 zero in
    record {
      due = λ digit below some can none.
          let b = digit + kind_less kind in
          let b_in = square_in kind digit below in
          let here = c.lanes_of-there.ensures b b_in ∙ if_not (slice_index own b) 0 0 1 (stands digit below some) in
          let moving = c.intersection-moving.ensures.squares b in
          let goes = moves b b_in can in
          let both = c.intersection.ensures.squares b in
          let either = c.union-wrong.ensures.squares b in
          let first : bit_at c.lanes_of-mates.result.bits b ≡ 0 = omega (arith, here, moving, goes, both, either, none) in
          let second : bit_at c.wrong_clocks.result.bits b ≡ 0 = omega (arith, here, moving, goes, both, either, none) in
          put_in part t (code_of t.class (number_in t.class shelf.number shelf.side digit)) (due_in part (slice_index scores b)) (due_score (slice_index c.args.zeroing b))
          (sym (own_is digit below) ∙ same_there (slice_index own b) (slice_index c.due_in.result b) b (slice_index c.unlike.result b) (bit_at c.lanes_of-mates.result.bits b) b_in (c.unlike.ensures b b_in) (c.lanes_of-mates.ensures b b_in) first ∙ c.due_in.ensures b b_in)
          (λ is. c.wrong_clocks.ensures digit below second is ∙ c.due.ensures b b_in);
      moving = λ digit below has zero.
          let b = digit + kind_less kind in
          let both = c.intersection.ensures.squares b in
          let moving = c.intersection-moving.ensures.squares b in
          let rests = stays b (square_in kind digit below) zero in
          omega (arith, has, both, moving, rests);
      end = λ digit below some zero none.
          let b = digit + kind_less kind in
          let b_in = square_in kind digit below in
          let here = c.lanes_of-there.ensures b b_in ∙ if_not (slice_index own b) 0 0 1 (stands digit below some) in
          let moving = c.intersection-moving.ensures.squares b in
          let rests = stays b b_in zero in
          let first = c.difference.ensures.squares b in
          let second = c.difference-2.ensures.squares b in
          omega (arith, here, moving, rests, first, second, none);
      still = λ digit below has.
          let b = digit + kind_less kind in
          elim (cases_eq (slice_index scores b) 0) [
            | inl zero ↦ zero
            | inr can ↦
                let goes = moves b (square_in kind digit below) can in
                let moving = c.intersection-moving.ensures.squares b in
                let first = c.difference.ensures.squares b in
                let second = c.difference-2.ensures.squares b in
                absurd (omega (arith, has, first, second, moving, goes))
          ];
    }
