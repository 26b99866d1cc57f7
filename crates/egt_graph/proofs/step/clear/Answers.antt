use Rattle.std.proofs.Common.{◌<◌, true, false, length, sym, ◌∙◌, arith}
use Rattle.std.proofs.lemmas.List.{ext_get_or, get_or-replicate, length-replicate}
use Rattle.egt_graph.proofs.step.clear.Goals as goal

pub returns : goal.returns
returns c =
    let n = length c.args.flags.now in
    ext_get_or true _ _ (c.loop-k.auto.flags ∙ sym (length-replicate n false))
    (λ k lt.
    let below : k < length c.args.flags.now = omega (arith, c.loop-k.auto.flags) in
    c.loop-k.invariant k (omega arith) ∙ sym (get_or-replicate n k false true below))
