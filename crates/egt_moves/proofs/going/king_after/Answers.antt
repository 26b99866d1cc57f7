use Rattle.std.proofs.Common.{sym, subst, refl, ◌∙◌}
use Rattle.egt_moves.specs.Prelude.{IsKingOn, plain}
use Rattle.egt_moves.proofs.MenAfter.{king_moves, king_stays}
use Rattle.egt_moves.proofs.going.king_after.Goals as goal

pub returns-in-K : goal.returns-in-K
returns-in-K c = king_moves c.args.position.now c.args.man (plain c.args.from c.args.to) c.king-king.result c.side.ensures.admissible c.requires.stands (subst (λ side. IsKingOn c.args.position.now.men side c.king-king.result) (c.side.ensures.side ∙ sym c.requires.mine) c.king-king.ensures) c.in-K.is refl

pub returns-in_default : goal.returns-in_default
returns-in_default c =
    king_stays c.args.position.now c.args.man (plain c.args.from c.args.to) c.king-king.result c.side.ensures.admissible c.requires.stands c.requires.mine c.requires.goes tt (subst (λ side. IsKingOn c.args.position.now.men side c.king-king.result) (c.side.ensures.side ∙ sym c.requires.mine) c.king-king.ensures) c.in_default.not-K
