use Rattle.std.proofs.Common.{rules, sym, ◌∙◌}
use Rattle.egt_fen.proofs.Digits.{AllDigits-from_test}
use Rattle.egt_fen.proofs.counter.counter_of.Goals as goal

pub value_of-requires-clause-digits : goal.value_of-requires-clause-digits
value_of-requires-clause-digits c = AllDigits-from_test c.args.field.now (sym c.are_digits.ensures ∙ search rules)
