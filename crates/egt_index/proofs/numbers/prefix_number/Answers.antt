use Rattle.std.proofs.Common.{arith, sym, ◌∙◌}
use Rattle.egt_index.proofs.NumbersOfCodes.{shelf_past, shelf_past_both}
use Rattle.egt_index.proofs.numbers.prefix_number.Goals as goal

pub returns-then-not-has_target-clause-past : goal.returns-then-not-has_target-clause-past
returns-then-not-has_target-clause-past c = shelf_past c.args.class c.args.shelf c.prefixes-prefixes.result c.prefixes-prefixes.ensures.whole (sym c.has_target.ensures ∙ c.if-not-has_target.true) c.if-shelf-prefixes.false

pub returns-else-prefix-prefixes-clause-past : goal.returns-else-prefix-prefixes-clause-past
returns-else-prefix-prefixes-clause-past c = grind (arith, shelf_past_both, c.prefixes-prefixes.ensures.whole, c.has_target.ensures, c.if-not-has_target.false, c.if-prefix-prefixes.false, c.if-shelf-prefixes.false)
