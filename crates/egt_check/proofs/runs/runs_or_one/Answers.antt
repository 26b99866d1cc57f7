use Rattle.std.proofs.Common.{arith, ap}
use Rattle.egt_check.specs.Prelude.{size_of, false≢true}
use Rattle.egt_check.proofs.RunsKept.{unmarked}
use Rattle.egt_check.proofs.runs.runs_or_one.Goals as goal

pub returns-in-None : goal.returns-in-None
returns-in-None c = λ part tables t class known.
    let same = ap size_of class in
    let size = c.size.ensures in
    record { all = omega (arith, same, size); few = omega arith; told = λ said. absurd (false≢true said); right = λ run i marked from under below. absurd (unmarked 2048 run marked.white) }
