use Rattle.std.proofs.Common.{arith}
use Rattle.egt_fen.specs.Prelude.{digits_value, take_all}
use Rattle.egt_fen.proofs.Digits.{one_more, digits_value_small}
use Rattle.egt_fen.proofs.counter.value_of.Goals as goal

pub overflow_mul-value : goal.overflow_mul-value
overflow_mul-value c =
    let more = one_more c.args.digits.now c.loop-digit.digit-index c.loop-digit.value c.requires.digits c.requires.few (omega arith) c.loop-digit.invariant in
    omega arith

pub overflow_sub-digit : goal.overflow_sub-digit
overflow_sub-digit c = grind (arith, one_more, c.loop-digit.value, c.requires.digits, c.requires.few, c.loop-digit.invariant)

pub overflow_add-value : goal.overflow_add-value
overflow_add-value c = grind (arith, one_more, c.loop-digit.value, c.requires.digits, c.requires.few, c.loop-digit.invariant, c.from.ensures)

pub loop-digit-preserved : goal.loop-digit-preserved
loop-digit-preserved c = grind (arith, one_more, c.loop-digit.value, c.requires.digits, c.requires.few, c.loop-digit.invariant, c.from.ensures)

pub returns-clause-small : goal.returns-clause-small
returns-clause-small c = grind (arith, digits_value_small, digits_value, take_all, c.requires.digits, c.requires.few, c.loop-digit.invariant)
