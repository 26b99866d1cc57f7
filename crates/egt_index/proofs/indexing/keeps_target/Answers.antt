use Rattle.std.proofs.Common.{arith}
use Rattle.egt_index.specs.Prelude.{is_some}
use Rattle.egt_index.proofs.indexing.keeps_target.Goals as goal

pub returns-in-Some : goal.returns-in-Some
returns-in-Some c = grind (arith, is_some, c.is_settled.ensures, c.target.ensures, c.in-Some.is)

pub returns-in-None : goal.returns-in-None
returns-in-None c = grind (arith, is_some)
