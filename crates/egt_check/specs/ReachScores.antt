-- The greatest scores of all moves in the column of the nearest mates.
use Rattle.std.specs.Prelude.{◌≡◌, ℕ, Bool, true, false, max}
use Rattle.egt_blocks.specs.Prelude.{IsRaised, AreQuietCodes}
use Rattle.egt_board.specs.declared.man.Side.{Side}
use Rattle.egt_index.specs.declared.shelf_codes.ShelfMen.{ShelfMen}
use Rattle.egt_table.specs.declared.column.Column.TheVariants.{Reach}
use Rattle.egt_check.specs.MoveScores.{AreAllScores, ArePassingCaptures, AreZeroingMoves}
use Rattle.egt_check.specs.Worth.{column_score}
use Rattle.egt_check.specs.declared.move_scores.FourMenTables.{FourMenTables}
use Rattle.egt_check.specs.declared.part.Part.{Part}
use Rattle.egt_check.specs.declared.part.Part.TheVariants as parts

-- the greatest of quiet moves and of those that zero but captures in passing, where the first man stands on a and the last on b
pub record AreReachScores (four : FourMenTables) (men : ShelfMen) (side : Side) (a b reach : ℕ) : Type 0 where
  pub quiet : ℕ
  pub zeroed : ℕ
  pub quiet_raised : IsRaised 0 (AreQuietCodes four.own.class men side a b) (column_score four.own Reach) quiet
  pub zeroed_are : AreZeroingMoves Reach four men side a b zeroed
  pub is : reach ≡ max quiet zeroed

-- where there is a target, that raised to the scores of captures in passing
pub record ArePassingReachScores (four : FourMenTables) (men : ShelfMen) (side : Side) (a b reach : ℕ) : Type 0 where
  pub plain : ℕ
  pub passing : ℕ
  pub plain_is : AreReachScores four men side a b plain
  pub passing_are : ArePassingCaptures Reach four.children men side a b passing
  pub is : reach ≡ max plain passing

-- that of all moves, where there is a target or where there is none
abbrev pub AreAllReachScores : (targeted : Bool) (four : FourMenTables) (men : ShelfMen) (side : Side) (a b reach : ℕ) → Type 0
AreAllReachScores false = AreReachScores
AreAllReachScores true = ArePassingReachScores

-- those of all moves in the columns of a part
abbrev pub AreAllScoresOf : Part → (targeted : Bool) (four : FourMenTables) (men : ShelfMen) (side : Side) (a b score zeroing : ℕ) → Type 0
AreAllScoresOf parts.Values targeted four men side a b score zeroing = AreAllScores targeted four men side a b score zeroing
AreAllScoresOf parts.Reach targeted four men side a b score zeroing = AreAllReachScores targeted four men side a b score
