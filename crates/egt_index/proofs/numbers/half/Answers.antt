use Rattle.std.proofs.Common.{ap, sym, ◌∙◌, ◌/◌}
use Rattle.egt_index.proofs.NumbersOfCodes.{half_plain, half_targets}
use Rattle.egt_index.proofs.numbers.half.Goals as goal

pub returns-then-has_target : goal.returns-then-has_target
returns-then-has_target c = ap (λ n. n / 2) c.size.ensures ∙ sym (half_targets c.args.class (sym c.has_target.ensures ∙ c.if-has_target.true))

pub returns-else-has_target : goal.returns-else-has_target
returns-else-has_target c = c.size-else-has_target.ensures ∙ sym (half_plain c.args.class (sym c.has_target.ensures ∙ c.if-has_target.false))
