-- The faults of a setup by number and by name.
use Rattle.std.specs.Prelude.{ℕ, List, codes}
use Rattle.egt_board.specs.declared.fault.PosFault.{PosFault}
use Rattle.egt_board.specs.declared.fault.PosFault.TheVariants.{MenCount, KingCount, PawnRank, EpMismatch, WaitingInCheck}

abbrev pub number_of : PosFault → ℕ
number_of MenCount = 7
number_of KingCount = 8
number_of PawnRank = 9
number_of EpMismatch = 10
number_of WaitingInCheck = 11

abbrev pub name_of : PosFault → List ℕ
name_of MenCount = codes "MenCount"
name_of KingCount = codes "KingCount"
name_of PawnRank = codes "PawnRank"
name_of EpMismatch = codes "EpMismatch"
name_of WaitingInCheck = codes "WaitingInCheck"
