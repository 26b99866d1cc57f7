use Rattle.std.proofs.Common.{◌≡◌}
use Rattle.egt_plain.proofs.runs.play_with_losses.Given as goal

-- the run is over the same game
abbrev pub invariant-loop-block : goal.invariant-loop-block
invariant-loop-block g l = l.rounds.game ≡ l.fn.rounds.game
