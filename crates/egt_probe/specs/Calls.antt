-- Answers of the calls that are asked of one position, a fault included.
use Rattle.std.specs.Prelude.{IsSome, List, Option, Result, Ok, Err}
use Rattle.egt_board.specs.Setup.{Setup}
use Rattle.egt_moves.specs.declared.chess_move.Move.{Move}
use Rattle.egt_probe.specs.declared.fault.HoldFault.{HoldFault}
use Rattle.egt_probe.specs.declared.fault.LineFault.{LineFault}
use Rattle.egt_probe.specs.declared.outcome.Missing.{Missing}
use Rattle.egt_probe.specs.declared.outcome.Verdict.{Verdict}
use Rattle.egt_probe.specs.Fault.{IsHoldFault, IsLineFault}
use Rattle.egt_probe.specs.Hold.{IsHold}
use Rattle.egt_probe.specs.Line.{IsBestPlay}
use Rattle.egt_probe.specs.Loaded.{Loaded, IsLoaded, IsMissing}
use Rattle.egt_probe.specs.Verdict.{IsVerdict}

-- the verdict of a position whose class is loaded
abbrev pub TellsVerdict : Loaded → Setup → Result Verdict Missing → Type 0
TellsVerdict loaded p (Ok v) = IsVerdict loaded p v × IsSome (loaded v.class)
TellsVerdict loaded p (Err missing) = IsMissing loaded p missing.class

-- its line of best play
abbrev pub TellsLine : Loaded → Setup → Result (List Move) LineFault → Type 0
TellsLine loaded p (Ok ms) = IsBestPlay p ms × IsLoaded loaded p
TellsLine loaded p (Err fault) = IsLineFault loaded p fault

-- its move that holds a draw
abbrev pub TellsHold : Loaded → Setup → Result (Option Move) HoldFault → Type 0
TellsHold loaded p (Ok held) = IsHold p held × IsLoaded loaded p
TellsHold loaded p (Err fault) = IsHoldFault loaded p fault
