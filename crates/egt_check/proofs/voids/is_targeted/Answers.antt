use Rattle.std.proofs.Common.{ℕ, false, true, subst}
use Rattle.egt_check.specs.Prelude.{IsShelfOf}
use Rattle.egt_check.proofs.voids.is_targeted.Goals as goal

pub returns-in-Some : goal.returns-in-Some
returns-in-Some c = subst (λ (n : ℕ). IsShelfOf false c.args.class n c.args.men.now) c.if-number-shelf.true c.in-Some.ensures.shelf

pub returns-in-Some-shelf_of : goal.returns-in-Some-shelf_of
returns-in-Some-shelf_of c = subst (λ (n : ℕ). IsShelfOf true c.args.class n c.args.men.now) c.if-number-shelf-2.true c.in-Some-shelf_of.ensures.shelf
