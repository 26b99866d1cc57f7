use Rattle.std.proofs.Common.{◌≡◌, ◌≤◌, length, take}
use Rattle.egt_c.proofs.class_calls.egtb_children.Given as goal

abbrev pub invariant-loop-child : goal.invariant-loop-child
invariant-loop-child l = record {
  few : length l.child-items ≤ 9;
  count : l.count ≡ l.child-index;
  done : take l.child-index l.into ≡ take l.child-index l.child-items;
}
