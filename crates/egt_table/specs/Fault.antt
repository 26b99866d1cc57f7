-- The faults of a file by number and by name.
use Rattle.std.specs.Prelude.{ℕ, List, codes}
use Rattle.egt_table.specs.declared.fault.FileFault.{FileFault}
use Rattle.egt_table.specs.declared.fault.FileFault.TheVariants.{Device, Short, Magic, Version, Layout, Class, Columns, Count, Trailing, NoMemory}

abbrev pub number_of : FileFault → ℕ
number_of Device = 1
number_of Short = 2
number_of Magic = 3
number_of Version = 4
number_of Layout = 5
number_of Class = 6
number_of Columns = 7
number_of Count = 8
number_of Trailing = 9
number_of NoMemory = 10

abbrev pub name_of : FileFault → List ℕ
name_of Device = codes "Device"
name_of Short = codes "Short"
name_of Magic = codes "Magic"
name_of Version = codes "Version"
name_of Layout = codes "Layout"
name_of Class = codes "Class"
name_of Columns = codes "Columns"
name_of Count = codes "Count"
name_of Trailing = codes "Trailing"
name_of NoMemory = codes "NoMemory"
