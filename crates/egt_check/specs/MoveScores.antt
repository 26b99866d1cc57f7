-- The greatest scores of all moves, in both columns.
use Rattle.std.specs.Prelude.{◌≡◌, ◌≢◌, ℕ, ◌<◌, Bool, true, false, max, Some, IfSome, List}
use Rattle.egt_blocks.specs.Prelude.{turned_man, IsLoneMan, AreMenOf, at, IsRaised, ArePassingCodes, AreQuietCodes}
use Rattle.egt_blocks.specs.Prelude.{AreLeftCodes, men_swapped, ScoresNoVoids}
use Rattle.egt_table.specs.Prelude.{HasColumn, IsTable}
use Rattle.egt_lanes.specs.Prelude.{zeroing_score}
use Rattle.egt_steps.specs.Prelude.{IsClassOfTwo}
use Rattle.egt_entries.specs.Prelude.{Tables}
use Rattle.egt_board.specs.declared.man.Kind.TheVariants.{K}
use Rattle.egt_board.specs.declared.man.Side.{Side}
use Rattle.egt_index.specs.declared.shelf_codes.ShelfMen.{ShelfMen}
use Rattle.egt_table.specs.declared.column.Column.{Column}
use Rattle.egt_entries.specs.declared.metric.Metric.TheVariants.{Mate, Zeroing}
use Rattle.egt_check.specs.PawnScores.{ArePromotionsOf, AreRaisedByPawns, HasPromotions, IsBestPromotion}
use Rattle.egt_check.specs.Taken.{IsTableOf}
use Rattle.egt_check.specs.Worth.{HasBytes, column_score, score_at}
use Rattle.egt_check.specs.declared.move_scores.Children.{Children}
use Rattle.egt_check.specs.declared.move_scores.FourMenTables.{FourMenTables}
use Rattle.egt_table.specs.declared.column.Column.TheVariants as columns

-- the tables are those of the classes that the moves of these men lead to when they leave their own, and have the column
pub record AreChildren (column : Column) (children : Children) (men : ShelfMen) : Type 0 where
  pub first_there : HasColumn column children.first.now
  pub last_there : HasColumn column children.last.now
  pub one : men.first.kind ≢ K
  pub last : men.last.kind ≢ K
  pub first_left : IsLoneMan children.first.now.class (turned_man children.first_flips men.first)
  pub last_left : IsLoneMan children.last.now.class (turned_man children.last_flips men.last)
  pub first_pawn : IfSome children.first_pawn (λ kinds. ArePromotionsOf column kinds (men_swapped men))
  pub last_pawn : IfSome children.last_pawn (λ kinds. ArePromotionsOf column kinds men)
  pub same : men.first ≡ men.last → children.first_pawn ≡ children.last_pawn

-- the class has these men beside its kings, and all tables have the column; void codes of the class score nothing there,
-- nor in the zeroing column, which is judged with the mate column
pub record AreFourMenTables (column : Column) (four : FourMenTables) (men : ShelfMen) : Type 0 where
  pub own_there : HasColumn column four.own
  pub own_voids : ScoresNoVoids four.own.class (column_score four.own column)
  pub zeroing_voids : column ≡ columns.Mate → ScoresNoVoids four.own.class (column_score four.own columns.Zeroing)
  pub men_of : AreMenOf four.own.class men
  pub children : AreChildren column four.children men

-- the greatest score in the column of captures that promote no pawn, but those in passing, and of promotions, where the first man stands on a and the last on b
pub record AreExits (column : Column) (children : Children) (men : ShelfMen) (side : Side) (a b score : ℕ) : Type 0 where
  pub by_first : ℕ
  pub by_last : ℕ
  pub last_promoted : ℕ
  pub first_promoted : ℕ
  pub first_raised : IsRaised 0 (AreLeftCodes children.first.now.class children.first_flips men side a b) (column_score children.first.now column) by_first
  pub last_raised : IsRaised 0 (AreLeftCodes children.last.now.class children.last_flips (men_swapped men) side b a) (column_score children.last.now column) by_last
  pub last_is : IsBestPromotion column children.last_pawn men side a b last_promoted
  pub first_is : IsBestPromotion column children.first_pawn (men_swapped men) side b a first_promoted
  pub is : score ≡ max (max by_first by_last) (max last_promoted first_promoted)

-- the greatest score in the column of captures that promote no pawn, and of the other moves of pawns but captures in passing
pub record AreZeroingMoves (column : Column) (four : FourMenTables) (men : ShelfMen) (side : Side) (a b score : ℕ) : Type 0 where
  pub by_first : ℕ
  pub by_last : ℕ
  pub by_pawns : ℕ
  pub first_raised : IsRaised 0 (AreLeftCodes four.children.first.now.class four.children.first_flips men side a b) (column_score four.children.first.now column) by_first
  pub last_raised : IsRaised 0 (AreLeftCodes four.children.last.now.class four.children.last_flips (men_swapped men) side b a) (column_score four.children.last.now column) by_last
  pub pawns : AreRaisedByPawns column four.own four.children.first_pawn four.children.last_pawn men side a b by_pawns
  pub is : score ≡ max (max by_first by_last) by_pawns

-- the same of captures in passing, by the last man and by the first
pub record ArePassingCaptures (column : Column) (children : Children) (men : ShelfMen) (side : Side) (a b score : ℕ) : Type 0 where
  pub by_last : ℕ
  pub by_first : ℕ
  pub last_raised : IsRaised 0 (ArePassingCodes children.last.now.class children.last_flips men side a b) (column_score children.last.now column) by_last
  pub first_raised : IsRaised 0 (ArePassingCodes children.first.now.class children.first_flips (men_swapped men) side b a) (column_score children.first.now column) by_first
  pub is : score ≡ max by_last by_first

-- the block holds the scores of exits, and of captures in passing
abbrev pub HoldsExits : Column → Children → ShelfMen → Side → List (List ℕ) → Type 0
HoldsExits column children men side block = (a b : ℕ) → a < 64 → b < 64 → AreExits column children men side a b (at block a b)

abbrev pub HoldsPassing : Column → Children → ShelfMen → Side → List (List ℕ) → Type 0
HoldsPassing column children men side block = (a b : ℕ) → a < 64 → b < 64 → ArePassingCaptures column children men side a b (at block a b)

-- the greatest of quiet moves and of those that zero but captures in passing
pub record AreMoveScores (four : FourMenTables) (men : ShelfMen) (side : Side) (a b mate zeroing : ℕ) : Type 0 where
  pub quiet_mate : ℕ
  pub quiet_zeroing : ℕ
  pub zeroed : ℕ
  pub mate_raised : IsRaised 0 (AreQuietCodes four.own.class men side a b) (score_at four.own Mate) quiet_mate
  pub zeroing_raised : IsRaised 0 (AreQuietCodes four.own.class men side a b) (score_at four.own Zeroing) quiet_zeroing
  pub zeroed_are : AreZeroingMoves columns.Mate four men side a b zeroed
  pub mate_is : mate ≡ max quiet_mate zeroed
  pub zeroing_is : zeroing ≡ max quiet_zeroing (zeroing_score zeroed)

-- where there is a target, those raised to the scores of captures in passing
pub record ArePassingScores (four : FourMenTables) (men : ShelfMen) (side : Side) (a b mate zeroing : ℕ) : Type 0 where
  pub plain_mate : ℕ
  pub plain_zeroing : ℕ
  pub passing : ℕ
  pub plain : AreMoveScores four men side a b plain_mate plain_zeroing
  pub passing_are : ArePassingCaptures columns.Mate four.children men side a b passing
  pub mate_is : mate ≡ max plain_mate passing
  pub zeroing_is : zeroing ≡ max plain_zeroing (zeroing_score passing)

-- those of all moves, where there is a target or where there is none
abbrev pub AreAllScores : (targeted : Bool) (four : FourMenTables) (men : ShelfMen) (side : Side) (a b mate zeroing : ℕ) → Type 0
AreAllScores false = AreMoveScores
AreAllScores true = ArePassingScores

-- the table, whose bytes tell its entries, and those of the classes that captures and promotions lead to
pub record AreTablesOf (tables : Tables) (four : FourMenTables) (men : ShelfMen) : Type 0 where
  pub is_table : IsTable four.own
  pub found : tables four.own.class ≡ Some four.own
  pub bytes : HasBytes four.own
  pub first : IsTableOf tables four.children.first.now four.children.first_flips men.first
  pub last : IsTableOf tables four.children.last.now four.children.last_flips men.last
  pub own_after : IsClassOfTwo four.own.class false men.first men.last
  pub first_pawn : IfSome four.children.first_pawn (λ kinds. HasPromotions tables kinds (men_swapped men))
  pub last_pawn : IfSome four.children.last_pawn (λ kinds. HasPromotions tables kinds men)
