use Rattle.std.proofs.Common.{arith, ap}
use Rattle.egt_unmoves.specs.Prelude.{Setup}
use Rattle.egt_unmoves.proofs.Pushing.{pushed}
use Rattle.egt_unmoves.proofs.listing.push_before.Goals as goal

pub returns-clause-listed : goal.returns-clause-listed
returns-clause-listed c =
    rw c.push.ensures.items
    (pushed c.args.position.now c.args.man c.args.from c.args.to c.args.target c.requires.may (omega arith) c.requires.only c.args.list.now.items c.before-before.result _
    c.requires.listed (rw c.before-before.ensures c.requires.comes) (ap (λ (b : Setup). b.target) c.before-before.ensures) c.is_pawn.ensures)
