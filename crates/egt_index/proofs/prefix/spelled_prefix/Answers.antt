use Rattle.std.proofs.Common.{◌∙◌, IfNone, arith, sym, ap, subst}
use Rattle.egt_index.specs.Prelude.{false≢true, SpellsNothing, with_last}
use Rattle.std.specs.FinMap as map
use Rattle.egt_index.proofs.Prefixes.{apart_all, few_before}
use Rattle.egt_index.proofs.RowMen.{apart_in_row, nothing_in_row}
use Rattle.egt_index.proofs.Touching.{none_near}
use Rattle.egt_index.proofs.prefix.spelled_prefix.Goals as goal

pub returns-in_err-stand-clause-none : goal.returns-in_err-stand-clause-none
returns-in_err-stand-clause-none c =
    subst (λ o. IfNone o (SpellsNothing c.args.class c.args.number)) (sym c.from_residual.ensures) (λ n last code p tells same spells. nothing_in_row c.args.class n code p (c.in_err-stand.ensures.none n last tells) same spells)

pub returns-then-are_near-clause-none : goal.returns-then-are_near-clause-none
returns-then-are_near-clause-none c = λ n last code p tells same spells.
    none_near c.args.class n code (with_last c.in_ok-stand.stand last) p (omega (arith, c.number-number.ensures.below, c.number-number.ensures.value)) same (c.in_ok-stand.ensures.some.men n last tells) spells
    (c.are_near.ensures.0 c.if-are_near.true)

pub returns-then-not-are_apart-clause-none : goal.returns-then-not-are_apart-clause-none
returns-then-not-are_apart-clause-none c = λ n last code p tells same spells.
    let stand = with_last c.in_ok-stand.stand last in
    let apart = apart_in_row c.args.class n code stand p same (c.in_ok-stand.ensures.some.men n last tells) spells in
    false≢true (sym c.if-not-are_apart.true ∙ c.are_apart.ensures.1 (apart_all c.in_ok-stand.stand last c.in_ok-stand.ensures.some.no_last apart).0)

pub returns-clause-some : goal.returns-clause-some
returns-clause-some c = record {
  before = c.in_ok-stand.ensures.some;
  apart = c.are_apart.ensures.0 c.if-not-are_apart.false;
  board = c.board_of-board.ensures.men;
  room = let few = few_before c.in_ok-stand.stand c.in_ok-stand.ensures.some.no_last in let is = ap map.len c.board_of-board.ensures.men in omega arith;
  least = λ e. absurd (false≢true (sym e));
}
