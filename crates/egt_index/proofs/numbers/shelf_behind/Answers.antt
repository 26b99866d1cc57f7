use Rattle.std.proofs.Common.{arith}
use Rattle.egt_index.proofs.NumbersOfCodes.{prefix_low, prefix_past, half_twice, half_within}
use Rattle.egt_index.proofs.numbers.shelf_behind.Goals as goal

pub returns-then-prefix-prefixes-clause-none : goal.returns-then-prefix-prefixes-clause-none
returns-then-prefix-prefixes-clause-none c = λ shelf at. prefix_past c.args.class c.args.prefix c.prefixes-prefixes.result c.prefixes-prefixes.ensures.whole c.if-prefix-prefixes.true at.within

pub returns-then-not-targeted-clause-within : goal.returns-then-not-targeted-clause-within
returns-then-not-targeted-clause-within c = grind (arith, prefix_low, half_within, c.prefixes-prefixes.ensures.whole, c.if-prefix-prefixes.false)

pub returns-then-has_target-clause-within : goal.returns-then-has_target-clause-within
returns-then-has_target-clause-within c = grind (arith, prefix_low, half_twice, c.prefixes-prefixes.ensures.whole, c.if-prefix-prefixes.false, c.has_target.ensures, c.if-has_target.true)
