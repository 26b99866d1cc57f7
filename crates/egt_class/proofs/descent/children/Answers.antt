use Rattle.std.proofs.Common.{arith, sym, ◌∙◌}
use Rattle.egt_class.specs.Prelude.{common_steps}
use Rattle.egt_class.proofs.ChildTable.{listed_none, listed_more}
use Rattle.egt_class.proofs.descent.children.Goals as goal

pub loop-at-init : goal.loop-at-init
loop-at-init c = record {
  items = c.new-children.ensures ∙ sym (listed_none c.span-start.result.0);
  room = rw c.new-children.ensures (omega arith);
}

pub loop-at-preserved : goal.loop-at-preserved
loop-at-preserved c = grind (arith, listed_more, common_steps, c.span-start.ensures.end, c.push.ensures.items, c.loop-at.invariant.items, c.child.ensures)
