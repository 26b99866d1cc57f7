use Rattle.std.proofs.Common.{◌+◌, ◌*◌, arith}
use Rattle.egt_check.specs.Prelude.{size_of, KeepsReach, table_at, beside}
use Rattle.egt_check.proofs.RunsKept.{run_kept, run_within}
use Rattle.egt_check.proofs.checking.first_bad_reach.Goals as goal

pub loop-run-preserved-then-is_right : goal.loop-run-preserved-then-is_right
loop-run-preserved-then-is_right c =
    let t = c.args.table.now in
    let runs = c.args.runs.now in
    let run = c.loop-run.run in
    let within = run_within run runs.count runs.len (size_of t.class) c.loop-run-test.true c.requires.runs.all in
    run_kept (KeepsReach (beside (table_at c.args.library.now) t) t) (run * runs.len) ((run + 1) * runs.len) c.loop-run.invariant
    (λ i from under. c.requires.runs.right run i (c.is_right.ensures c.if-is_right.true) from under (omega (arith, within, under)))
