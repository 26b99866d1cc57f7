use Rattle.std.proofs.Common.{◌≡◌, ℕ, ◌<◌, ◌+◌, true, take, set, sym, subst, ◌∙◌}
use Rattle.egt_commands.proofs.Marking.{Adds, adds_more}
use Rattle.egt_commands.proofs.descent.mark_children.Goals as goal

pub loop-child-preserved : goal.loop-child-preserved
loop-child-preserved c =
    let is : c.from.result ≡ c.child-item.result = c.from.ensures ∙ c.number.ensures.value in
    let below : c.child-item.result < 36 = subst (λ (n : ℕ). n < 36) c.number.ensures.value c.number.ensures.below in
    let items = c.as_slice-child-items.result.now in
    subst (λ (e : ℕ). Adds c.args.marks.now (set c.loop-child.marks e true) (take (c.loop-child.child-index + 1) items)) (sym is)
    (adds_more c.args.marks.now c.loop-child.marks items c.loop-child.child-index c.child-item.result c.loop-child-test.true (sym c.child-item.is) below c.loop-child.invariant)
