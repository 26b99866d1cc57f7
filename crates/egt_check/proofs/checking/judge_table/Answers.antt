use Rattle.std.proofs.Common.{◌≡◌, ◌+◌, ◌*◌, ℕ, ◌<◌, ◌≤◌, None, ap, subst, ◌∙◌, arith}
use Rattle.egt_check.specs.Prelude.{size_of, Metric, Mate, Zeroing, IsFirstBad, IsJudged, Keeps, table_at, beside}
use Rattle.egt_check.proofs.RunsKept.{first_bad_kept, run_kept, run_within}
use Rattle.egt_check.proofs.checking.judge_table.Goals as goal

pub loop-run-preserved-then-is_right : goal.loop-run-preserved-then-is_right
loop-run-preserved-then-is_right c =
    let t = c.args.table.now in
    let tables = beside (table_at c.args.library.now) t in
    let len = c.args.runs.now.len in
    let run = c.loop-run.run in
    let runs = c.requires.runs in
    let within = run_within run c.args.runs.now.count len (size_of t.class) c.loop-run-test.true runs.all in
    let right : (i : ℕ) → run * len ≤ i → i < (run + 1) * len → (metric : Metric) → IsJudged tables t metric i None =
    λ i from under. runs.right run i (c.is_right.ensures c.if-is_right.true) from under (omega (arith, within, under)) in
    record {
      mate = run_kept (Keeps tables t Mate) (run * len) ((run + 1) * len) c.loop-run.invariant.mate (λ i from under. right i from under Mate);
      zeroing = first_bad_kept tables t (run * len) ((run + 1) * len) c.loop-run.bad (omega arith) c.loop-run.invariant.zeroing (λ i from under. right i from under Zeroing);
    }

pub returns-clause-zeroing : goal.returns-clause-zeroing
returns-clause-zeroing c =
    let t = c.args.table.now in
    let tables = beside (table_at c.args.library.now) t in
    let runs = c.requires.runs in
    let below = c.loop-run.auto.run-end in
    let past = c.loop-run-test.false in
    let end : c.loop-run.run ≡ c.args.runs.now.count = omega (arith, below, past) in
    subst (λ n. IsFirstBad tables t n c.loop-run.bad) (ap (λ k. k * c.args.runs.now.len) end ∙ runs.all) c.loop-run.invariant.zeroing
