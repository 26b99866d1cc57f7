use Rattle.std.proofs.Common.{◌≡◌, ℕ, false, true, Option, None, sym, ap, ◌∙◌, subst, arith}
use Rattle.egt_moves.specs.Prelude.{rank_of, last_rank, the_type, Side, Kind, K, Man, other_side, IsKingOn, is_pawn}
use Rattle.egt_moves.specs.Prelude.{promotes, FitsPromotion, men_after}
use Rattle.egt_moves.proofs.MenAfter.{king_moves, king_stays, other_king_stays, may_become}
use denote.Enum.Bare.{sameb}
use Rattle.egt_moves.proofs.playing.king_after_move.Goals as goal

like : (a b : Side) → sameb the_type a b ≡ true → a ≡ b
like a b e = grind arith

unlike : (a b : Side) → sameb the_type a b ≡ false → other_side a ≡ b
unlike a b e = grind arith

-- a king becomes nothing
none_for_king : (man : Man) (to : ℕ) (promo : Option Kind) → man.kind ≡ K → FitsPromotion (promotes man to) promo → promo ≡ None
none_for_king man to promo is_king fits = grind (arith, is_pawn, rank_of, last_rank)

pub returns-in-K : goal.returns-in-K
returns-in-K c =
    let p = c.args.position.now in
    let same = like c.args.man.side c.args.side (sym c.eq.ensures ∙ c.if-eq.true) in
    subst (λ side. IsKingOn (men_after p c.args.man c.args.chess_move.now) side c.args.chess_move.now.to) same
    (king_moves p c.args.man c.args.chess_move.now c.king-king.result c.requires.admissible c.requires.stands (subst (λ side. IsKingOn p.men side c.king-king.result) (sym same) c.king-king.ensures) c.in-K.is
    (none_for_king c.args.man c.args.chess_move.now.to c.args.chess_move.now.promo c.in-K.is c.requires.promotion))

pub returns-in_default : goal.returns-in_default
returns-in_default c =
    let p = c.args.position.now in
    let same = like c.args.man.side c.args.side (sym c.eq.ensures ∙ c.if-eq.true) in
    subst (λ side. IsKingOn (men_after p c.args.man c.args.chess_move.now) side c.king-king.result) same
    (king_stays p c.args.man c.args.chess_move.now c.king-king.result c.requires.admissible c.requires.stands c.requires.mine c.requires.goes (may_become _ c.args.chess_move.now.promo c.requires.promotion)
    (subst (λ side. IsKingOn p.men side c.king-king.result) (sym same) c.king-king.ensures) c.in_default.not-K)

pub returns-else-eq : goal.returns-else-eq
returns-else-eq c =
    let p = c.args.position.now in
    let other : other_side p.side ≡ c.args.side = ap other_side (sym c.requires.mine) ∙ unlike c.args.man.side c.args.side (sym c.eq.ensures ∙ c.if-eq.false) in
    subst (λ side. IsKingOn (men_after p c.args.man c.args.chess_move.now) side c.king-king.result) other
    (other_king_stays p c.args.man c.args.chess_move.now c.king-king.result c.requires.stands c.requires.mine c.requires.goes c.requires.admissible (subst (λ side. IsKingOn p.men side c.king-king.result) (sym other) c.king-king.ensures))
