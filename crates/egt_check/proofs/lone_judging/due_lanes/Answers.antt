use Rattle.std.proofs.Common.{◌≡◌, ◌∙◌, ◌+◌, ℕ, arith, inl, inr, sym, slice_index}
use Rattle.egt_check.specs.Prelude.{bit_at-lt, bit_at-zero, cases_eq, get_or-replicate, kind_less, square_in}
use Rattle.egt_check.proofs.ByteJudged.{if_not, if_same}
use Rattle.egt_check.proofs.LoneJudged.{lane_of, none_there}
use Rattle.egt_check.proofs.Marks.{mark_none}
use Rattle.egt_check.proofs.lone_judging.due_lanes.Goals as goal

pub returns-then-not-quiet_row : goal.returns-then-not-quiet_row
returns-then-not-quiet_row c = record {
  none = λ digit below none.
      let three = c.args.three.now in
      let s = digit + kind_less three.men.last.kind in
      none_there three.table.now three.men c.args.first c.args.side c.requires.row c.codes_tell_turned_men.ensures.one c.args.column c.lone_row-own.result c.lone_row-own.ensures digit below c.lanes_of.result.bits
      (c.lanes_of.ensures s (square_in three.men.last.kind digit below)) none;
  due = λ digit below has. absurd (let none = bit_at-zero (digit + kind_less c.args.three.now.men.last.kind) in omega (arith, has, none));
}

pub returns : goal.returns
returns c = record {
  none = λ digit below none.
      let three = c.args.three.now in
      let s = digit + kind_less three.men.last.kind in
      none_there three.table.now three.men c.args.first c.args.side c.requires.row c.codes_tell_turned_men.ensures.one c.args.column c.lone_row-own.result c.lone_row-own.ensures digit below c.lanes_of-2.result.bits
      (c.lanes_of-2.ensures s (square_in three.men.last.kind digit below)) none;
  due = λ digit below has.
      let three = c.args.three.now in
      let s = digit + kind_less three.men.last.kind in
      let s_in = square_in three.men.last.kind digit below in
      let score : ℕ = slice_index c.quiet_row.new.out s in
      let own : ℕ = slice_index c.lone_row-own.result s in
      let due : ℕ = slice_index c.due_in.result s in
      let other : ℕ = slice_index c.unlike-other.result s in
      let both = c.difference.ensures.squares s in
      let few = bit_at-lt c.lanes_of-3.result.bits s in
      let no_other : other ≡ 0 = mark_none other (sym (c.lanes_of-4.ensures s s_in) ∙ omega (arith, has, both, few)) in
      let same : own ≡ due = elim (cases_eq own due) [
        | inl same ↦ same
        | inr apart ↦ absurd (let one = c.unlike-other.ensures s s_in ∙ if_not own due 0 _ apart ∙ get_or-replicate 64 s 1 0 s_in in omega (arith, one, no_other))
      ] in
      record {
        score = score;
        some = λ none. let marked = c.lanes_of-3.ensures s s_in ∙ if_same score 0 0 1 none in omega (arith, has, both, marked);
        raised = c.quiet_row.ensures c.if-not-quiet_row.false s s_in;
        due = sym (lane_of three.table.now three.men c.args.first c.args.side c.requires.row c.codes_tell_turned_men.ensures.one c.args.column c.lone_row-own.result c.lone_row-own.ensures digit below)
            ∙ same ∙ c.due_in.ensures s s_in;
      };
}
