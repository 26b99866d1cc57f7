-- The report of a line: a FEN (PGN standard of 1994, section 16.1), or what stands in its place.
use Rattle.std.specs.Prelude.{◌≡◌, ℕ, ◌<◌, ◌≤◌, List, length, Option, Some, IsSome}
use Rattle.egt_fen.specs.Prelude.{Setup, Spells, IsFirstFault}
use Rattle.egt_board.specs.declared.man.Side.{Side}
use Rattle.egt_fen.specs.declared.fault.FenFault.{FenFault}
use Rattle.egt_fen.specs.declared.fen.Fen.{Fen}
use Rattle.egt_moves.specs.Found.{mate_by}
use Rattle.egt_moves.specs.declared.chess_move.Move.{Move}
use Rattle.egt_probe.specs.declared.outcome.Outcome.{Outcome}
use Rattle.egt_probe.specs.declared.outcome.Verdict.{Verdict}
use Rattle.egt_probe.specs.Hold.{IsHold}
use Rattle.egt_probe.specs.Line.{IsLine}
use Rattle.egt_probe.specs.Loaded.{Loaded, IsMissing}
use Rattle.egt_probe.specs.Text.{decided_text, dead_text, drawn_text, missing_text, refused_text, long_text}
use Rattle.egt_probe.specs.Verdict.{IsVerdict}
use Rattle.egt_probe.specs.declared.outcome.Outcome.TheVariants as outcomes

abbrev pub verdict_of : ℕ → Outcome → Verdict
verdict_of c value = record { class = c; value = value }

-- what is reported of a position: that its class is not loaded, or its value with the line of best play, or that it is dead
-- or drawn, with the move that holds the draw
pub data PositionReport (loaded : Loaded) (p : Setup) (text : List ℕ) : Type 0 where
  Unloaded : (c : ℕ) → IsMissing loaded p c → text ≡ missing_text c → PositionReport loaded p text
  Decisive : (c : ℕ) (winner : Side) (plies zeroing : ℕ) (ms : List Move) → IsSome (loaded c) → IsVerdict loaded p (verdict_of c (outcomes.Decided winner plies zeroing)) →
      IsLine p (mate_by p.side winner plies) ms → text ≡ decided_text c winner plies zeroing ms → PositionReport loaded p text
  Dead : (c : ℕ) (held : Move) → IsVerdict loaded p (verdict_of c outcomes.Dead) → IsHold p (Some held) → text ≡ dead_text c held → PositionReport loaded p text
  Drawn : (c : ℕ) (held : Option Move) → IsSome (loaded c) → IsVerdict loaded p (verdict_of c outcomes.Draw) → IsHold p held → text ≡ drawn_text c held → PositionReport loaded p text

-- the most bytes that a line may have, a carriage return counted
abbrev pub most : ℕ
most = 1024

-- what is reported of a line: that it is long, else the first fault of its FEN, else what is reported of its position
pub data Report (loaded : Loaded) (line text : List ℕ) : Type 0 where
  Long : most < length line → text ≡ long_text → Report loaded line text
  Refused : (fault : FenFault) → length line ≤ most → IsFirstFault line fault → text ≡ refused_text fault → Report loaded line text
  Answered : (fen : Fen) → length line ≤ most → Spells line fen → PositionReport loaded fen.position text → Report loaded line text
