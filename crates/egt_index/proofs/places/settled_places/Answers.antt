use Rattle.std.proofs.Common.{Bool, sym, subst, ◌∙◌}
use Rattle.egt_index.specs.Prelude.{false≢true, AreMade}
use Rattle.egt_index.proofs.NumbersOfCodes.{of_targets}
use Rattle.egt_index.proofs.places.settled_places.Goals as goal

pub targeted_places-requires-clause-targets : goal.targeted_places-requires-clause-targets
targeted_places-requires-clause-targets c = of_targets c.args.class (λ none. absurd (false≢true (sym (c.requires.targets none) ∙ c.if-targeted.true))) (λ has. has)

pub returns-then-targeted : goal.returns-then-targeted
returns-then-targeted c = subst (λ (targeted : Bool). AreMade targeted c.args.class c.args.prefix.now.stand c.args.man c.targeted_places.result) (sym c.if-targeted.true) c.targeted_places.ensures

pub returns-else-targeted : goal.returns-else-targeted
returns-else-targeted c = subst (λ (targeted : Bool). AreMade targeted c.args.class c.args.prefix.now.stand c.args.man c.plain_places.result) (sym c.if-targeted.false) c.plain_places.ensures
