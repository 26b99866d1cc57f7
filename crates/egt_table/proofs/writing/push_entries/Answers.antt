use Rattle.std.proofs.Common.{◌++◌, sym, ap, ◌∙◌, append_assoc, List, ℕ}
use Rattle.egt_table.specs.Prelude.{err_from_is_err_and, entries_bytes}
use Rattle.egt_table.proofs.Known.{appends_more, front_more}
use Rattle.egt_table.proofs.Entries.{entries_more, entries_split}
use Rattle.egt_table.proofs.writing.push_entries.Goals as goal

pub returns-in_err-push_piece-clause-front : goal.returns-in_err-push_piece-clause-front
returns-in_err-push_piece-clause-front g c =
    let pushed = c.loop-rest.invariant.pushed in
    let piece = c.split_at.result.0.now in
    let behind = c.split_at.result.1.now in
    let whole = entries_split c.args.entries.now pushed piece behind (c.loop-rest.invariant.entries ∙ ap (λ (w : List ℕ). pushed ++ w) c.split_at.ensures.by_index.0) in
    let p = err_from_is_err_and c.from_residual.result c.from_residual.ensures.1 in
    rw p.1 (front_more _ _ _ (entries_bytes pushed) (entries_bytes piece) (entries_bytes behind) _ c.loop-rest.invariant.bytes c.in_err-push_piece.ensures.front whole)

pub loop-rest-preserved : goal.loop-rest-preserved
loop-rest-preserved g c =
    let pushed = c.loop-rest.invariant.pushed in
    let piece = c.split_at.result.0.now in
    let behind = c.split_at.result.1.now in
    record {
      pushed = pushed ++ piece;
      entries = c.loop-rest.invariant.entries ∙ ap (λ (w : List ℕ). pushed ++ w) c.split_at.ensures.by_index.0 ∙ sym (append_assoc pushed piece behind);
      bytes = appends_more _ _ _ _ _ _ c.loop-rest.invariant.bytes c.in_ok-push_piece.ensures.bytes (entries_more pushed piece);
      failures = c.in_ok-push_piece.ensures.failures ∙ c.loop-rest.invariant.failures;
    }
