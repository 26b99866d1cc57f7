use Rattle.std.proofs.Common.{◌≡◌}
use Rattle.egt_plain.proofs.runs.draw_round.Given as goal

-- the run is over the same game
abbrev pub invariant-loop-draw : goal.invariant-loop-draw
invariant-loop-draw g l = l.rounds.game ≡ l.fn.rounds.game
