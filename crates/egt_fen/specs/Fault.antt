-- The faults of a text by number and by name.
use Rattle.std.specs.Prelude.{ℕ, List, codes}
use Rattle.egt_board.specs.declared.fault.PosFault.{PosFault}
use Rattle.egt_board.specs.declared.fault.PosFault.TheVariants as pos
use Rattle.egt_fen.specs.declared.fault.FenFault.{FenFault}
use Rattle.egt_fen.specs.declared.fault.FenFault.TheVariants.{FieldCount, Placement, Colour, Castling, EpField, Counter, MenCount, KingCount, PawnRank, EpMismatch, WaitingInCheck}

abbrev pub number_of : FenFault → ℕ
number_of FieldCount = 1
number_of Placement = 2
number_of Colour = 3
number_of Castling = 4
number_of EpField = 5
number_of Counter = 6
number_of MenCount = 7
number_of KingCount = 8
number_of PawnRank = 9
number_of EpMismatch = 10
number_of WaitingInCheck = 11

abbrev pub name_of : FenFault → List ℕ
name_of FieldCount = codes "FieldCount"
name_of Placement = codes "Placement"
name_of Colour = codes "Colour"
name_of Castling = codes "Castling"
name_of EpField = codes "EpField"
name_of Counter = codes "Counter"
name_of MenCount = codes "MenCount"
name_of KingCount = codes "KingCount"
name_of PawnRank = codes "PawnRank"
name_of EpMismatch = codes "EpMismatch"
name_of WaitingInCheck = codes "WaitingInCheck"

-- what keeps a setup from being a position, as a fault of the text
abbrev pub fault_of : PosFault → FenFault
fault_of pos.MenCount = MenCount
fault_of pos.KingCount = KingCount
fault_of pos.PawnRank = PawnRank
fault_of pos.EpMismatch = EpMismatch
fault_of pos.WaitingInCheck = WaitingInCheck
