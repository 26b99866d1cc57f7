-- The claim of a verdict on a position.
use Rattle.std.specs.Prelude.{◌≡◌, ◌≤◌, Bool, true, Option, Some}
use Rattle.egt_moves.specs.Prelude.{Setup, Value, Draw, HasValue, chess, IsDead, CanMove, HasZeroing}
use Rattle.egt_board.specs.declared.man.Side.{Side}
use Rattle.egt_moves.specs.Found.{mate_by}
use Rattle.egt_moves.specs.Standing.{IsStalemate}
use Rattle.egt_probe.specs.declared.outcome.Outcome.{Outcome}
use Rattle.egt_probe.specs.declared.outcome.Verdict.{Verdict}
use Rattle.egt_probe.specs.Loaded.{Loaded, IsOfClass}
use Rattle.egt_probe.specs.declared.outcome.Outcome.TheVariants as outcomes

-- the outcome as the side to move sees it: a win where it is the winner, else a loss, in so many plies to mate
abbrev pub mate_value : Side → Outcome → Value
mate_value mover outcomes.Draw = Draw
mate_value mover outcomes.Dead = Draw
mate_value mover (outcomes.Decided winner plies zeroing) = mate_by mover winner plies

-- an outcome in plies to the capture, move of a pawn or checkmate that comes next, as the mover sees it
abbrev pub zeroing_value : Side → Outcome → Value
zeroing_value mover outcomes.Draw = Draw
zeroing_value mover outcomes.Dead = Draw
zeroing_value mover (outcomes.Decided winner plies zeroing) = mate_by mover winner zeroing

-- the distances that a table has room for
abbrev pub IsWithin : Outcome → Type 0
IsWithin outcomes.Draw = Unit {0}
IsWithin outcomes.Dead = Unit {0}
IsWithin (outcomes.Decided winner plies zeroing) = (plies ≤ 32000) × (zeroing ≤ 32000)

-- what is told of dead positions (FIDE Laws 2023, article 5.2.2): `Dead` is said only of one with a legal move, and only where the table of
-- the class has the column of the nearest mates; and there `Draw` of no such position
abbrev pub TellsDead : Option Bool → Setup → Outcome → Type 0
TellsDead column p outcomes.Draw = column ≡ Some true → IsDead chess p → IsStalemate p
TellsDead column p outcomes.Dead = (column ≡ Some true) × IsDead chess p × CanMove p
TellsDead column p (outcomes.Decided winner plies zeroing) = Unit {0}

-- the position is of that class; at a draw, dead or not, neither side can ever force checkmate; else the winner forces it within so many
-- plies against every defence, the defender avoids it for one less, and the zeroing distance is the least likewise
pub record IsVerdict (loaded : Loaded) (p : Setup) (v : Verdict) : Type 0 where
  pub class : IsOfClass v.class p
  pub mate : HasValue chess p (mate_value p.side v.value)
  pub zeroing : HasZeroing chess p (zeroing_value p.side v.value)
  pub dead : TellsDead (loaded v.class) p v.value
