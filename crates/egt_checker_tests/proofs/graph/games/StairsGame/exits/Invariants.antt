use Rattle.std.proofs.Common.{◌≡◌, take}
use Rattle.egt_checker_tests.specs.Stairs.{exits_of}
use Rattle.egt_checker_tests.proofs.graph.games.StairsGame.exits.Given as goal

abbrev pub invariant-loop-pair : goal.invariant-loop-pair
invariant-loop-pair l = l.exits.items ≡ exits_of (take l.pair-index l.pair-items) l.i
