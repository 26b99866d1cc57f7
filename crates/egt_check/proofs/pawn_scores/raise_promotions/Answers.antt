use Rattle.egt_lanes.specs.Blocks.{at}
use Rattle.egt_check.proofs.pawn_scores.raise_promotions.Goals as goal

pub returns : goal.returns
returns c = λ told a b a_in b_in. record {
  queen = at c.raise_promotion.new.out a b;
  rook = at c.raise_promotion-2.new.out a b;
  bishop = at c.raise_promotion-3.new.out a b;
  queen_is = c.raise_promotion.ensures c.if-not-raise_promotion.false a b a_in b_in;
  rook_is = c.raise_promotion-2.ensures c.if-not-raise_promotion-2.false a b a_in b_in;
  bishop_is = c.raise_promotion-3.ensures c.if-not-raise_promotion-3.false a b a_in b_in;
  knight_is = c.raise_promotion-4.ensures told a b a_in b_in;
}
