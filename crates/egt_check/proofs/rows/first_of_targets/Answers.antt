use Rattle.std.proofs.Common.{◌*◌, ◌+◌, ◌/◌, ◌≤◌, ◌∙◌, ap, subst, sym}
use Rattle.egt_check.specs.Prelude.{code_of, size_of, first_within}
use Rattle.egt_check.proofs.rows.first_of_targets.Goals as goal

pub returns-clause-within : goal.returns-clause-within
returns-clause-within c = subst (λ n. n / 2 * 2 + 192 ≤ size_of c.args.class) (sym (c.code_of.ensures.is ∙ ap (λ p. code_of c.args.class (c.args.shelf * (2 * p))) c.last_digits.ensures.is)) (first_within c.args.class c.args.shelf c.requires.targets c.requires.within)
