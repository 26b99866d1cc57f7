-- The greatest scores of the moves of a pawn, with the tables of the classes that he leads to.
use Rattle.std.specs.Prelude.{◌≡◌, ◌⊎◌, ℕ, max, if◌then◌else◌, Bool, false, true, Option, Some}
use Rattle.egt_blocks.specs.Prelude.{turned_man, IsLoneMan, AreMenOf, IsRaised, IsOfficer, arriving, AreLeapCodes}
use Rattle.egt_blocks.specs.Prelude.{AreStepCodes, AreAdvancedCodes, ArePromotedCodes, men_after, officer_of}
use Rattle.egt_blocks.specs.Prelude.{men_swapped, ScoresNoVoids}
use Rattle.egt_table.specs.Prelude.{HasColumn, TableValue}
use Rattle.egt_entries.specs.Prelude.{Tables}
use Rattle.egt_board.specs.declared.man.Kind.TheVariants.{Q, R, B, N, P}
use Rattle.egt_board.specs.declared.man.Man.{Man}
use Rattle.egt_board.specs.declared.man.Side.{Side}
use Rattle.egt_index.specs.declared.shelf_codes.ShelfMen.{ShelfMen}
use Rattle.egt_table.specs.declared.column.Column.{Column}
use Rattle.egt_check.specs.Taken.{IsTableAfter, IsTableOf}
use Rattle.egt_check.specs.Worth.{column_score}
use Rattle.egt_check.specs.declared.pawn_scores.Promotion.{Promotion}
use Rattle.egt_check.specs.declared.pawn_scores.Promotions.{Promotions}

-- the classes that a promotion of the last man to this kind leads to, whose tables have the column; void codes score
-- nothing in that of the two men
pub record IsPromotionOf (column : Column) (promotion : Promotion) (men : ShelfMen) : Type 0 where
  pub officer : IsOfficer promotion.kind
  pub both_there : HasColumn column promotion.both.now
  pub both_voids : ScoresNoVoids promotion.both.now.class (column_score promotion.both.now column)
  pub alone_there : HasColumn column promotion.alone.now
  pub both : AreMenOf promotion.both.now.class (men_after promotion.before promotion.both_flips men (arriving men.last (Some promotion.kind)))
  pub alone : IsLoneMan promotion.alone.now.class (turned_man promotion.alone_flips (officer_of men.last.side promotion.kind))

-- of each of the four
pub record ArePromotionsOf (column : Column) (promotions : Promotions) (men : ShelfMen) : Type 0 where
  pub queen : IsPromotionOf column promotions.queen men
  pub rook : IsPromotionOf column promotions.rook men
  pub bishop : IsPromotionOf column promotions.bishop men
  pub knight : IsPromotionOf column promotions.knight men

-- the number raised to the greatest scores in the column after promotions to this kind, with the first man on a and the last on b
pub record IsPromotionScore (column : Column) (promotion : Promotion) (men : ShelfMen) (side : Side) (a b low high : ℕ) : Type 0 where
  pub advanced : ℕ
  pub taken : ℕ
  pub advanced_raised : IsRaised 0 (AreAdvancedCodes promotion.both.now.class promotion.before promotion.both_flips men side (Some promotion.kind) a b) (column_score promotion.both.now column) advanced
  pub taken_raised : IsRaised 0 (ArePromotedCodes promotion.alone.now.class promotion.alone_flips men side promotion.kind a b) (column_score promotion.alone.now column) taken
  pub is : high ≡ max (max low advanced) taken

-- of promotions to each kind
pub record ArePromotionScores (column : Column) (promotions : Promotions) (men : ShelfMen) (side : Side) (a b low high : ℕ) : Type 0 where
  pub queen : ℕ
  pub rook : ℕ
  pub bishop : ℕ
  pub queen_is : IsPromotionScore column promotions.queen men side a b low queen
  pub rook_is : IsPromotionScore column promotions.rook men side a b queen rook
  pub bishop_is : IsPromotionScore column promotions.bishop men side a b rook bishop
  pub knight_is : IsPromotionScore column promotions.knight men side a b bishop high

-- the greatest score after the last man's promotions, where he is a pawn of that side, or 0
abbrev pub IsBestPromotion : (column : Column) (promotions : Option Promotions) (men : ShelfMen) (side : Side) (a b score : ℕ) → Type 0
IsBestPromotion column promotions men side a b score =
    ((score ≡ 0) × ¬ ((men.last.kind ≡ P) × (men.last.side ≡ side)))
    ⊎ ((men.last.kind ≡ P) × (men.last.side ≡ side) × (kinds : Promotions) × (promotions ≡ Some kinds) × ArePromotionScores column kinds men side a b 0 score)

-- the greatest score after the last man's advances without promotion
pub record AreAdvanceScores (column : Column) (own : TableValue) (first : Bool) (men : ShelfMen) (side : Side) (a b score : ℕ) : Type 0 where
  pub stepped : ℕ
  pub leapt : ℕ
  pub stepped_raised : IsRaised 0 (AreStepCodes own.class first men side a b) (column_score own column) stepped
  pub leapt_raised : IsRaised 0 (AreLeapCodes own.class first men side a b) (column_score own column) leapt
  pub is : score ≡ max stepped leapt

-- of both men's, with the first on a and the last on b
pub record AreOwnPawnMoves (column : Column) (own : TableValue) (men : ShelfMen) (side : Side) (a b score : ℕ) : Type 0 where
  pub by_last : ℕ
  pub by_first : ℕ
  pub last_is : AreAdvanceScores column own false men side a b by_last
  pub first_is : AreAdvanceScores column own true (men_swapped men) side b a by_first
  pub is : score ≡ max by_last by_first

-- the greatest score after the pawn's advances, promotions and promoting captures
pub record ArePawnScores (column : Column) (own : TableValue) (first : Bool) (promotions : Promotions) (men : ShelfMen) (side : Side) (a b score : ℕ) : Type 0 where
  pub stepped : ℕ
  pub leapt : ℕ
  pub queen : ℕ
  pub rook : ℕ
  pub bishop : ℕ
  pub stepped_raised : IsRaised 0 (AreStepCodes own.class first men side a b) (column_score own column) stepped
  pub leapt_raised : IsRaised 0 (AreLeapCodes own.class first men side a b) (column_score own column) leapt
  pub queen_is : IsPromotionScore column promotions.queen men side a b (max stepped leapt) queen
  pub rook_is : IsPromotionScore column promotions.rook men side a b queen rook
  pub bishop_is : IsPromotionScore column promotions.bishop men side a b rook bishop
  pub knight_is : IsPromotionScore column promotions.knight men side a b bishop score

-- the number raised to that score where the last man is a pawn of that side
abbrev pub IsRaisedByPawn : (column : Column) (own : TableValue) (first : Bool) (promotions : Option Promotions) (men : ShelfMen) (side : Side) (a b low high : ℕ) → Type 0
IsRaisedByPawn column own first promotions men side a b low high =
    ((high ≡ low) × ¬ ((men.last.kind ≡ P) × (men.last.side ≡ side)))
    ⊎ ((men.last.kind ≡ P) × (men.last.side ≡ side) × (kinds : Promotions) × (promotions ≡ Some kinds) × (score : ℕ) × ArePawnScores column own first kinds men side a b score × (high ≡ max low score))

-- the greatest of these scores of both men, with the first on a and the last on b
pub record AreRaisedByPawns (column : Column) (own : TableValue) (first last : Option Promotions) (men : ShelfMen) (side : Side) (a b score : ℕ) : Type 0 where
  pub by_first : ℕ
  pub by_last : ℕ
  pub first_is : IsRaisedByPawn column own true first (men_swapped men) side b a 0 by_first
  pub last_is : IsRaisedByPawn column own false last men side a b 0 by_last
  pub is : score ≡ max by_last by_first

-- the two are the men beside the kings, the second named before the first where `before`
pub record AreNamed (before : Bool) (men : ShelfMen) (one last : Man) : Type 0 where
  pub one_is : men.first ≡ (if before then last else one)
  pub last_is : men.last ≡ (if before then one else last)

-- the tables at hand are those of these classes
pub record HasPromotion (tables : Tables) (promotion : Promotion) (men : ShelfMen) : Type 0 where
  pub both : IsTableAfter tables promotion.both.now promotion.before promotion.both_flips men.first (arriving men.last (Some promotion.kind))
  pub alone : IsTableOf tables promotion.alone.now promotion.alone_flips (officer_of men.last.side promotion.kind)

-- one for each kind that a pawn is promoted to
pub record HasPromotions (tables : Tables) (promotions : Promotions) (men : ShelfMen) : Type 0 where
  pub queen : HasPromotion tables promotions.queen men
  pub rook : HasPromotion tables promotions.rook men
  pub bishop : HasPromotion tables promotions.bishop men
  pub knight : HasPromotion tables promotions.knight men
  pub queen_is : promotions.queen.kind ≡ Q
  pub rook_is : promotions.rook.kind ≡ R
  pub bishop_is : promotions.bishop.kind ≡ B
  pub knight_is : promotions.knight.kind ≡ N
