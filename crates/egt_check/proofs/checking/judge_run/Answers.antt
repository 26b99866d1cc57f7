use Rattle.std.proofs.Common.{◌+◌, subst, sym, arith}
use Rattle.egt_check.specs.Prelude.{Mate, IsFirstBad, IsJudged, table_at, beside, keeps_more, first_bad_more}
use Rattle.egt_check.proofs.checking.judge_run.Goals as goal

pub loop-index-preserved : goal.loop-index-preserved
loop-index-preserved c =
    let t = c.args.table.now in
    let tables = beside (table_at c.args.library.now) t in
    let n = c.loop-index.index in
    let kept = subst (IsJudged tables t Mate n) c.in_default.is c.judge-mate.ensures.mate in
    let below = c.loop-index-test.true in
    record {
      within = omega (arith, below);
      mate = keeps_more tables t Mate n c.loop-index.invariant.mate kept;
      zeroing = subst (IsFirstBad tables t (n + 1)) (sym c.earlier-bad.ensures) (first_bad_more tables t n c.loop-index.bad _ c.loop-index.invariant.zeroing c.judge-mate.ensures.zeroing);
    }

pub returns : goal.returns
returns c = grind (arith, beside, table_at, c.loop-index.invariant.within, c.loop-index-test.false, c.loop-index.invariant.mate, c.loop-index.invariant.zeroing)
