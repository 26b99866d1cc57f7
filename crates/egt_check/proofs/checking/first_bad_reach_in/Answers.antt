use Rattle.std.proofs.Common.{arith, subst}
use Rattle.egt_check.specs.Prelude.{IsJudgedBy, KeepsReach, table_at, beside, keeps_reach_more}
use Rattle.egt_check.proofs.checking.first_bad_reach_in.Goals as goal

pub loop-index-preserved : goal.loop-index-preserved
loop-index-preserved c =
    let t = c.args.table.now in
    let tables = beside (table_at c.args.library.now) t in
    let n = c.loop-index.index in
    let below = c.loop-index-test.true in
    record {
      within = omega (arith, below);
      reach = keeps_reach_more tables t n c.loop-index.invariant.reach (subst (IsJudgedBy (KeepsReach tables t n)) c.in_default.is c.judge_reach.ensures);
    }
