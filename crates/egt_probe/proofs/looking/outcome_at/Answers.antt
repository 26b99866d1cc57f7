use Rattle.std.proofs.Common.{◌≡◌, ℕ, subst, arith}
use Rattle.egt_board.specs.declared.man.Side.{Side}
use Rattle.egt_moves.specs.WinLossDraw.{Draw, HasValue}
use Rattle.egt_moves.specs.Chess.{chess}
use Rattle.egt_moves.specs.Zeroing.{HasZeroing}
use Rattle.egt_probe.specs.declared.outcome.Outcome.{Outcome}
use Rattle.egt_probe.specs.declared.outcome.Outcome.TheVariants as outcomes
use Rattle.egt_probe.specs.Verdict.{mate_value, zeroing_value}
use Rattle.egt_probe.proofs.looking.outcome_at.Goals as goal

-- what is not decided is a draw
undecided : (s : Side) (o : Outcome) → ((w : Side) (n z : ℕ) → o ≡ outcomes.Decided w n z → ⊥) → (mate_value s o ≡ Draw) × (zeroing_value s o ≡ Draw)
undecided s o not = grind arith

pub returns-then-is_dead : goal.returns-then-is_dead
returns-then-is_dead c = grind (arith, undecided, chess, c.decided_or_drawn-shown.ensures, c.if-is_dead.ensures)

pub returns-else-is_dead : goal.returns-else-is_dead
returns-else-is_dead c = grind (arith, undecided, chess, c.decided_or_drawn-shown.ensures, c.if-is_dead.ensures)
