use Rattle.std.proofs.Common.{inr, sym, subst, ◌∙◌}
use Rattle.egt_check.specs.Prelude.{at, pawn_is, ArePromotionScores}
use Rattle.egt_check.proofs.pawn_scores.promotions_block.Goals as goal

pub returns : goal.returns
returns c = λ told a b a_in b_in.
    let kinds = c.in-Some.of_kinds in
    inr (
      pawn_is c.args.men.now.last.kind (sym c.is_pawn.ensures ∙ c.if-not-is_pawn.false),
      c.is_of.ensures.0 c.if-not-is_of.false,
      kinds,
      c.in-Some.is,
      subst (λ n. ArePromotionScores c.args.column kinds c.args.men.now c.args.side a b n (at c.raise_promotions.new.out a b)) (c.nothing.ensures a b a_in b_in) (c.raise_promotions.ensures told a b a_in b_in),
    )
