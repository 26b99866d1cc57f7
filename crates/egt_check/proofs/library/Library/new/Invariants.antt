use Rattle.egt_check.proofs.Shelving.{AreFreeSoFar}
use Rattle.egt_check.proofs.library.Library.new.Given as goal

abbrev pub invariant-loop : goal.invariant-loop
invariant-loop l = AreFreeSoFar l.places.items l.counter
