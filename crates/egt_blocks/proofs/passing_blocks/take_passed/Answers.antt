use Rattle.std.proofs.Common.{ℕ, ◌<◌, get_or, subst}
use Rattle.egt_blocks.specs.Prelude.{IsAtPassed}
use Rattle.egt_blocks.proofs.PassingRaising.{rows_set}
use Rattle.egt_blocks.proofs.passing_blocks.take_passed.Goals as goal

pub loop-a-preserved : goal.loop-a-preserved
loop-a-preserved c =
    rows_set (IsAtPassed c.args.side c.args.arrived.now) c.loop-a.out c.loop-a.a c.passed_row.result c.loop-a-test.true c.loop-a.invariant
    (subst (λ s. (b : ℕ) → b < 64 → IsAtPassed c.args.side c.args.arrived.now s b (get_or c.passed_row.result b 0)) c.at.ensures c.passed_row.ensures)
