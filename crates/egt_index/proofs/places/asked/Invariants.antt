use Rattle.std.proofs.Common.{◌+◌}
use Rattle.egt_index.proofs.Numbered.{IndexedTo}
use Rattle.egt_index.proofs.places.asked.Given as goal

-- the numbers of the digits so far
abbrev pub invariant-loop-digit : goal.invariant-loop-digit
invariant-loop-digit l = record {
  white : IndexedTo l.class l.first l.digit l.white.bits;
  black : IndexedTo l.class (l.first + 1) l.digit l.black.bits;
}
