use Rattle.std.specs.Prelude.{◌≡◌, map, take}
use Rattle.egt_sweep.specs.Prelude.{as_win}
use Rattle.egt_sweep.proofs.reach_game.as_wins.Given as goal

-- the exits so far
abbrev pub invariant-loop-exit : goal.invariant-loop-exit
invariant-loop-exit l = l.wins.items ≡ map as_win (take l.exit-index l.exit-items)
