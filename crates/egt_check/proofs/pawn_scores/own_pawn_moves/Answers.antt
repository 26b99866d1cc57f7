use Rattle.std.proofs.Common.{true, ◌∙◌, ap, arith, sym}
use Rattle.egt_check.specs.Prelude.{has_equal_sides, at, men_swapped}
use Rattle.egt_check.proofs.EqualPawns.{advanced_as_last}
use Rattle.egt_check.proofs.Exits.{no_advances, no_own_pawn}
use Rattle.egt_check.proofs.pawn_scores.own_pawn_moves.Goals as goal

-- the first man is no pawn of that side
pub returns-then-not-is_pawn_of : goal.returns-then-not-is_pawn_of
returns-then-not-is_pawn_of c = λ told a b a_in b_in. record {
  by_last = at c.advances_block.new.out a b;
  by_first = 0;
  last_is = c.advances_block.ensures c.if-not-advances_block.false a b a_in b_in;
  first_is = no_advances c.args.column c.args.own.now true (men_swapped c.args.men.now) c.args.side b a (no_own_pawn c.is_pawn_of.result c.args.men.now.first c.args.side c.is_pawn_of.ensures c.if-not-is_pawn_of.true);
  is = omega arith;
}

pub returns-then-not-has_equal_sides : goal.returns-then-not-has_equal_sides
returns-then-not-has_equal_sides c = λ told a b a_in b_in.
    let own = c.args.own.now in
    let men = c.args.men.now in
    let side = c.args.side in
    let equal = c.are_equal.ensures.0 c.if-are_equal.true in
    let apart = ap (λ k. has_equal_sides k) (sym c.class.ensures.class) ∙ sym c.has_equal_sides.ensures ∙ c.if-not-has_equal_sides.true in record {
      by_last = at c.advances_block.new.out a b;
      by_first = at c.advances_block.new.out b a;
      last_is = c.advances_block.ensures c.if-not-advances_block.false a b a_in b_in;
      first_is = advanced_as_last c.args.column own men apart equal side b a (at c.advances_block.new.out b a) (c.advances_block.ensures c.if-not-advances_block.false b a b_in a_in);
      is = c.raise_transposed.ensures a b a_in b_in;
    }

pub returns : goal.returns
returns c = grind (arith, at, men_swapped, c.advances_block.ensures, c.if-not-advances_block.false, c.men_swapped.ensures, c.advances_block-2.ensures, c.if-not-advances_block-2.false, c.raise_transposed-3.ensures)
