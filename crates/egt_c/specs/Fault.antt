-- Faults by family and number.
use Rattle.std.specs.Prelude.{ℕ}
use Rattle.egt_board.specs.declared.fault.PosFault.{PosFault}
use Rattle.egt_board.specs.Fault as setups
use Rattle.egt_fen.specs.declared.fault.FenFault.{FenFault}
use Rattle.egt_fen.specs.Fault as fens
use Rattle.egt_table.specs.declared.fault.FileFault.{FileFault}
use Rattle.egt_table.specs.Fault as files
use Rattle.egt_entries.specs.declared.reject.Reject.{Reject}
use Rattle.egt_entries.specs.declared.reject.Reject.TheVariants.{Missing, NoReach, Rejected, AlreadyThere}
use Rattle.egt_c.specs.declared.fault.EgtbFault.{EgtbFault}
use Rattle.egt_c.specs.Places.{column_place, rule_place}

-- one that names a class
abbrev pub about : (family number class : ℕ) → EgtbFault
about family number class = record { family = family; number = number; class_number = class; column = 0; rule = 0; index = 0 }

abbrev pub fault : (family number : ℕ) → EgtbFault
fault family number = about family number 0

abbrev pub no_fault : EgtbFault
no_fault = fault 0 0

abbrev pub of_fen : FenFault → EgtbFault
of_fen f = fault 1 (fens.number_of f)

-- of a position given by its men
abbrev pub of_setup : PosFault → EgtbFault
of_setup f = fault 1 (setups.number_of f)

abbrev pub of_file : FileFault → EgtbFault
of_file f = fault 2 (files.number_of f)

abbrev pub of_check : Reject → EgtbFault
of_check (Missing class) = about 3 11 class
of_check (NoReach class) = about 3 17 class
of_check (Rejected column i rule) = record { family = 3; number = 12; class_number = 0; column = column_place column; rule = rule_place rule; index = i }
of_check AlreadyThere = fault 3 13

-- the class of the position is not loaded
abbrev pub missing : ℕ → EgtbFault
missing class = about 4 11 class

abbrev pub no_memory : EgtbFault
no_memory = fault 4 10

-- the library is closed
abbrev pub closed : EgtbFault
closed = fault 5 1

-- no class has that number
abbrev pub no_class : EgtbFault
no_class = fault 5 2

-- the library has another owner
abbrev pub shared : EgtbFault
shared = fault 5 3

-- a number names no square, side or kind of man
abbrev pub no_man : EgtbFault
no_man = fault 5 4
