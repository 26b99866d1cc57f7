-- Faults by number and by name, as they are printed.
use Rattle.std.specs.Prelude.{ℕ, List, codes}
use Rattle.egt_graph.specs.declared.solver.SolveFault.{SolveFault}
use Rattle.egt_graph.specs.declared.solver.SolveFault.TheVariants.{NoMemory, TooDeep}

abbrev pub number_of : SolveFault → ℕ
number_of NoMemory = 1
number_of TooDeep = 2

abbrev pub name_of : SolveFault → List ℕ
name_of NoMemory = codes "NoMemory"
name_of TooDeep = codes "TooDeep"
