use Rattle.std.proofs.Common.{subst}
use Rattle.egt_blocks.specs.Prelude.{eqb-true, AreShelvesOf}
use Rattle.egt_blocks.proofs.blocks.begin_with.Goals as goal

pub returns-in-Some : goal.returns-in-Some
returns-in-Some c = λ same. subst (λ k. AreShelvesOf c.args.targeted c.args.class c.args.men.now k) (eqb-true c.in-Some.shelf c.args.first same) c.in-Some.ensures.shelves
