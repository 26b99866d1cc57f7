use Rattle.std.specs.Prelude.{◌≡◌, ℕ}
use Rattle.egt_unmoves.specs.Prelude.{pawn_of, Stands, rank_of, Has, advanced_rank}
use Rattle.egt_unmoves.proofs.targets.target_before.Given as goal

abbrev pub invariant-loop-square : goal.invariant-loop-square
invariant-loop-square l = (s : ℕ) → Stands l.position.men s (pawn_of l.mover) → rank_of s ≡ advanced_rank l.mover → Has l.rest s

abbrev pub decreases-loop-square : goal.decreases-loop-square
decreases-loop-square l = l.rest.bits
