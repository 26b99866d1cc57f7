use Rattle.std.proofs.Common.{◌≡◌, ◌++◌, take, drop, sym, ap, ◌∙◌, append_assoc, refl, List, ℕ}
use Rattle.egt_table.specs.Prelude.{take-append-drop, err_from_is_err_and}
use Rattle.egt_table.proofs.Known.{appends_more, front_kept}
use Rattle.egt_table.proofs.transfer.push_all.Goals as goal

pub returns-in_err-n-clause-front : goal.returns-in_err-n-clause-front
returns-in_err-n-clause-front g c =
    let p = err_from_is_err_and c.from_residual.result c.from_residual.ensures.1 in
    rw p.1 (front_kept _ _ _ c.loop-rest.invariant.taken c.loop-rest.rest.now _ c.loop-rest.invariant.bytes c.in_err-n.ensures.bytes c.loop-rest.invariant.piece)

pub loop-rest-preserved : goal.loop-rest-preserved
loop-rest-preserved g c =
    let taken = take c.in_ok-n.n c.loop-rest.rest.now in
    let behind = drop c.in_ok-n.n c.loop-rest.rest.now in
    let split : c.loop-rest.rest.now ≡ taken ++ behind = sym (take-append-drop c.in_ok-n.n c.loop-rest.rest.now) in
    record {
      taken = c.loop-rest.invariant.taken ++ taken;
      piece = c.loop-rest.invariant.piece ∙ ap (λ (w : List ℕ). c.loop-rest.invariant.taken ++ w) split ∙ sym (append_assoc c.loop-rest.invariant.taken taken behind) ∙ ap (λ (w : List ℕ). (c.loop-rest.invariant.taken ++ taken) ++ w) (sym c.split_at.ensures.back);
      bytes = appends_more _ _ _ _ _ _ c.loop-rest.invariant.bytes c.in_ok-n.ensures.bytes refl;
      failures = c.in_ok-n.ensures.failures ∙ c.loop-rest.invariant.failures;
    }
