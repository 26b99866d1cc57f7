-- The faults of building and of migrating by number and by name.
use Rattle.std.specs.Prelude.{ℕ, List, codes}
use Rattle.egt_sweep.specs.declared.build_fault.BuildFault.{BuildFault}
use Rattle.egt_sweep.specs.declared.build_fault.BuildFault.TheVariants.{NoMemory, TooDeep, Missing, NoReach}
use Rattle.egt_sweep.specs.declared.migrate_fault.MigrateFault.{MigrateFault}
use Rattle.egt_sweep.specs.declared.migrate_fault.MigrateFault.TheVariants as migrating

abbrev pub number_of : BuildFault → ℕ
number_of NoMemory = 1
number_of (TooDeep limit) = 2
number_of (Missing class) = 3
number_of (NoReach class) = 4

abbrev pub name_of : BuildFault → List ℕ
name_of NoMemory = codes "NoMemory"
name_of (TooDeep limit) = codes "TooDeep"
name_of (Missing class) = codes "Missing"
name_of (NoReach class) = codes "NoReach"

abbrev pub migrating_number_of : MigrateFault → ℕ
migrating_number_of migrating.NoMemory = 1
migrating_number_of migrating.TooDeep = 2
migrating_number_of (migrating.NoReach class) = 4
migrating_number_of migrating.HasReach = 5

abbrev pub migrating_name_of : MigrateFault → List ℕ
migrating_name_of migrating.NoMemory = codes "NoMemory"
migrating_name_of migrating.TooDeep = codes "TooDeep"
migrating_name_of (migrating.NoReach class) = codes "NoReach"
migrating_name_of migrating.HasReach = codes "HasReach"
