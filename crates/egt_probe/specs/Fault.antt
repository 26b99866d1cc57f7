-- When each fault comes, and the faults by number and by name.
use Rattle.std.specs.Prelude.{ℕ, List, codes}
use Rattle.egt_moves.specs.Prelude.{Setup, Draw, HasValue, chess}
use Rattle.egt_board.specs.declared.man.Side.{Side}
use Rattle.egt_moves.specs.Found.{mate_by}
use Rattle.egt_probe.specs.declared.fault.LineFault.{LineFault}
use Rattle.egt_probe.specs.declared.fault.HoldFault.{HoldFault}
use Rattle.egt_probe.specs.declared.fault.AnswerFault.{AnswerFault}
use Rattle.egt_probe.specs.Loaded.{Loaded, IsLoaded, IsMissing}
use Rattle.egt_probe.specs.declared.fault.LineFault.TheVariants as lines
use Rattle.egt_probe.specs.declared.fault.HoldFault.TheVariants as holds
use Rattle.egt_probe.specs.declared.fault.AnswerFault.TheVariants as answers

-- a side forces checkmate
pub record IsDecisive (p : Setup) : Type 0 where
  pub winner : Side
  pub plies : ℕ
  pub value : HasValue chess p (mate_by p.side winner plies)

-- why there is no line of best play
abbrev pub IsLineFault : Loaded → Setup → LineFault → Type 0
IsLineFault loaded p (lines.Missing c) = IsMissing loaded p c
IsLineFault loaded p lines.Drawn = IsLoaded loaded p × HasValue chess p Draw
IsLineFault loaded p lines.NoMemory = IsLoaded loaded p × IsDecisive p

-- why there is no move that holds a draw
abbrev pub IsHoldFault : Loaded → Setup → HoldFault → Type 0
IsHoldFault loaded p (holds.Missing c) = IsMissing loaded p c
IsHoldFault loaded p holds.Decisive = IsLoaded loaded p × IsDecisive p

abbrev pub line_number : LineFault → ℕ
line_number lines.NoMemory = 10
line_number (lines.Missing c) = 11
line_number lines.Drawn = 15

abbrev pub line_name : LineFault → List ℕ
line_name lines.NoMemory = codes "NoMemory"
line_name (lines.Missing c) = codes "Missing"
line_name lines.Drawn = codes "Drawn"

abbrev pub hold_number : HoldFault → ℕ
hold_number (holds.Missing c) = 11
hold_number holds.Decisive = 16

abbrev pub hold_name : HoldFault → List ℕ
hold_name (holds.Missing c) = codes "Missing"
hold_name holds.Decisive = codes "Decisive"

abbrev pub answer_number : AnswerFault → ℕ
answer_number answers.Device = 1
answer_number answers.NoMemory = 10

abbrev pub answer_name : AnswerFault → List ℕ
answer_name answers.Device = codes "Device"
answer_name answers.NoMemory = codes "NoMemory"
