use Rattle.std.proofs.Common.{Option, arith, inl, refl, sym, subst}
use Rattle.egt_check.specs.Prelude.{ShelfMen, at, IsBestPromotion, Promotions}
use Rattle.egt_check.proofs.EqualPawns.{same_order}
use Rattle.egt_check.proofs.Exits.{raised_twice}
use Rattle.egt_check.proofs.move_scores.raise_pawns_promoted.Goals as goal

pub returns-then-not-has_pawn : goal.returns-then-not-has_pawn
returns-then-not-has_pawn c = λ told a b a_in b_in. (
  0,
  0,
  inl (refl, c.has_pawn.ensures.last c.if-not-has_pawn.true),
  inl (refl, c.has_pawn.ensures.one c.if-not-has_pawn.true),
  omega arith,
)

pub returns-then-are_equal : goal.returns-then-are_equal
returns-then-are_equal c = λ told a b a_in b_in.
    let men = c.args.men.now in
    let children = c.args.children.now in
    let equal = c.are_equal.ensures.0 c.if-are_equal.true in
    let last = at c.promotions_block.new.out a b in
    let first = at c.promotions_block.new.out b a in (
      last,
      first,
      c.promotions_block.ensures c.if-not-promotions_block.false a b a_in b_in,
      subst (λ (m : ShelfMen). IsBestPromotion c.args.column children.first_pawn m c.args.side b a first) (same_order men equal)
          (subst (λ (p : Option Promotions). IsBestPromotion c.args.column p men c.args.side b a first) (sym (c.requires.same equal)) (c.promotions_block.ensures c.if-not-promotions_block.false b a b_in a_in)),
      raised_twice (at c.args.out.now a b) last first (at c.raise_to_max.new.out a b) (at c.raise_transposed.new.out a b)
          (c.raise_to_max.ensures a b a_in b_in) (c.raise_transposed.ensures a b a_in b_in),
    )

pub returns : goal.returns
returns c = λ told a b a_in b_in.
    let children = c.args.children.now in
    let last = at c.promotions_block.new.out a b in
    let first = at c.promotions_block-2.new.out b a in (
      last,
      first,
      c.promotions_block.ensures c.if-not-promotions_block.false a b a_in b_in,
      subst (λ (m : ShelfMen). IsBestPromotion c.args.column children.first_pawn m c.args.side b a first) c.men_swapped.ensures (c.promotions_block-2.ensures c.if-not-promotions_block-2.false b a b_in a_in),
      raised_twice (at c.args.out.now a b) last first (at c.raise_to_max.new.out a b) (at c.raise_transposed-2.new.out a b)
          (c.raise_to_max.ensures a b a_in b_in) (c.raise_transposed-2.ensures a b a_in b_in),
    )
