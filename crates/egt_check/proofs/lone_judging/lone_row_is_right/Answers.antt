use Rattle.std.proofs.Common.{◌≡◌, ◌<◌, ◌+◌, ◌*◌, arith, inl, inr, subst}
use Rattle.egt_check.specs.Prelude.{bit_at, bit_at-lt, cases_eq, side_number, kind_less, size_of, Column, IsDueAlone}
use Rattle.egt_check.specs.Prelude.{KeepsCode, column_score, side_few, square_in}
use Rattle.egt_check.proofs.lone_judging.lone_row_is_right.Goals as goal

pub returns : goal.returns
returns c = λ told digit below.
    let three = c.args.three.now in
    let side = c.args.side in
    let s = digit + kind_less three.men.last.kind in
    let i = c.args.first + side_number side + 2 * digit in
    let law = c.entries_due_to_quiet_steps_are_right.ensures in
    let within : i < size_of three.table.now.class = (let row = c.requires.row.within in let few = side_few side in omega (arith, row, few, below)) in
    let both = c.intersection.ensures.squares s in
    let quiet = c.intersection-quiet.ensures.squares s in
    elim (cases_eq (bit_at c.due_lanes.result.0.bits s) 0) [
      | inl none ↦ law.none three i c.requires.three within (subst (λ (k : Column). column_score three.table.now k i ≡ 0) c.column_of.ensures (c.due_lanes.ensures.none digit below none))
      | inr some ↦ elim (cases_eq (bit_at c.intersection.result.bits s) 1) [
        | inl all ↦
            let few = bit_at-lt c.due_lanes.result.1.bits s in
            let few_quiet = bit_at-lt c.quiet_lanes.result.bits s in
            let few_clock = bit_at-lt c.clock_lanes.result.bits s in
            let due = c.due_lanes.ensures.due digit below (omega (arith, all, both, few)) in
            law.due three side s i c.requires.three within (c.requires.row.tells side digit below) (c.quiet_lanes.ensures s (square_in three.men.last.kind digit below) (omega (arith, all, both, quiet, few_quiet)))
            (subst (λ (k : Column). IsDueAlone three k side s i) c.column_of.ensures due) (λ values. c.clock_lanes.ensures values digit below (omega (arith, all, both, quiet, few_clock)))
        | inr not ↦
            let rest = c.difference-rest.ensures.squares s in
            let few_some = bit_at-lt c.due_lanes.result.0.bits s in
            let few = bit_at-lt c.intersection.result.bits s in
            let left : bit_at c.difference-rest.result.bits s ≡ 1 = omega (arith, some, not, rest, few_some, few) in
            subst (λ n. KeepsCode three (n + 2 * digit)) c.first_code.ensures (c.keep_alone.ensures told digit below left)
      ]
    ]
