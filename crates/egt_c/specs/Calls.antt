-- Answers of the calls that C makes. Where there is a fault, what was there before stays.
use Rattle.std.specs.Prelude.{◌≡◌, ◌≢◌, ◌↔◌, ℕ, ◌≤◌, Bool, true, false, List, length, map, take, Option, Some, None}
use Rattle.egt_probe.specs.Prelude.{Contains, Setup, IsLegal, IsInOrder, TableValue, table_at, IsBest, Loaded}
use Rattle.egt_probe.specs.Prelude.{IsMissing, IsRoot, IsVerdict}
use Rattle.egt_check.specs.Prelude.{IsAccepted, IsTurnedAway, beside}
use Rattle.egt_fen.specs.Prelude.{Spells, IsFirstFault}
use Rattle.egt_table.specs.Prelude.{IsAnswer, bytes_of}
use Rattle.egt_moves.specs.declared.chess_move.Move.{Move}
use Rattle.egt_fen.specs.declared.fault.FenFault.{FenFault}
use Rattle.egt_fen.specs.declared.fen.Fen.{Fen}
use Rattle.egt_table.specs.declared.fault.FileFault.{FileFault}
use Rattle.egt_table.specs.declared.fault.FileFault.TheVariants.{Device}
use Rattle.egt_entries.specs.declared.reject.Reject.{Reject}
use Rattle.egt_probe.specs.declared.outcome.Verdict.{Verdict}
use Rattle.egt_probe.specs.declared.ranking.RootMove.{RootMove}
use Rattle.egt_c.specs.declared.fault.EgtbFault.{EgtbFault}
use Rattle.egt_c.specs.declared.moves.EgtbMove.{EgtbMove}
use Rattle.egt_c.specs.declared.moves.EgtbMoves.{EgtbMoves}
use Rattle.egt_c.specs.declared.men.EgtbPosition.{EgtbPosition}
use Rattle.egt_c.specs.declared.root_moves.EgtbRootMoves.{EgtbRootMoves}
use Rattle.egt_c.specs.declared.verdict.EgtbAnswer.{EgtbAnswer}
use Rattle.egt_c.specs.Fault.{no_fault, of_fen, of_file, of_check, missing, no_memory, no_class, shared}
use Rattle.egt_c.specs.Contents.{Places}
use Rattle.egt_c.specs.Men.{IsOfMen, IsMenFault}
use Rattle.egt_c.specs.Move.{written, written_or_none}
use Rattle.egt_c.specs.RootMoves.{shown_root}
use Rattle.egt_c.specs.Verdict.{shown}

-- a library without tables is made, or there is no memory for it
pub data Opens (fault : EgtbFault) (before after : Option Places) : Type 0 where
  Opened : (places : Places) → fault ≡ no_fault → after ≡ Some places → ((c : ℕ) → table_at places c ≡ None) → Opens fault before after
  NoRoom : fault ≡ no_memory → after ≡ before → Opens fault before after

-- a library gets one more owner, or there is no memory for it
pub data Shares (places : Places) (fault : EgtbFault) (before after : Option Places) : Type 0 where
  Handed : fault ≡ no_fault → after ≡ Some places → Shares places fault before after
  NotHanded : fault ≡ no_memory → after ≡ before → Shares places fault before after

-- the bytes are read as a table of the class, and the library takes it
pub data Adds (class : ℕ) (bytes : List ℕ) (fault : EgtbFault) (before after : Places) : Type 0 where
  NoClass : 36 ≤ class → fault ≡ no_class → after ≡ before → Adds class bytes fault before after
  Elsewhere : fault ≡ shared → after ≡ before → Adds class bytes fault before after
  NotRead : (f : FileFault) → f ≢ Device → IsAnswer class bytes f → fault ≡ of_file f → after ≡ before → Adds class bytes fault before after
  TurnedAway : (t : TableValue) (r : Reject) → t.class ≡ class → bytes ≡ bytes_of t → IsTurnedAway (table_at before) t r → fault ≡ of_check r → after ≡ before →
      Adds class bytes fault before after
  Added : (t : TableValue) → t.class ≡ class → bytes ≡ bytes_of t → table_at before t.class ≡ None → IsAccepted (table_at before) t → fault ≡ no_fault →
      ((c : ℕ) → table_at after c ≡ beside (table_at before) t c) → Adds class bytes fault before after

-- whether a class is loaded, and whether its table has the column of the nearest mates
abbrev pub level : Option Bool → ℕ
level None = 0
level (Some false) = 1
level (Some true) = 2

-- the position that the text spells, and the text's first fault where it spells none
abbrev pub IsOfText : List ℕ → Setup → Type 0
IsOfText fen p = (read : Fen) × Spells fen read × (p ≡ read.position)

abbrev pub IsTextFault : List ℕ → EgtbFault → Type 0
IsTextFault fen fault = (f : FenFault) × IsFirstFault fen f × (fault ≡ of_fen f)

-- what is told of a position that is given in some way, or the fault of what was given
pub data Tells {X : Type 0} (Is : Setup → Type 0) (Refuses : EgtbFault → Type 0) (P : Setup → EgtbFault → X → X → Type 0) (fault : EgtbFault) (before after : X) : Type 0 where
  Refused : Refuses fault → after ≡ before → Tells Is Refuses P fault before after
  Answered : (p : Setup) → Is p → P p fault before after → Tells Is Refuses P fault before after

-- given by a text
abbrev pub OfText : {X : Type 0} → (Setup → EgtbFault → X → X → Type 0) → List ℕ → EgtbFault → X → X → Type 0
OfText P fen = Tells (IsOfText fen) (IsTextFault fen) P

-- given by its men
abbrev pub OfMen : {X : Type 0} → (Setup → EgtbFault → X → X → Type 0) → EgtbPosition → EgtbFault → X → X → Type 0
OfMen P given = Tells (IsOfMen given) (IsMenFault given) P

-- the verdict of a position
pub data TellsVerdict (loaded : Loaded) (p : Setup) (fault : EgtbFault) (before after : EgtbAnswer) : Type 0 where
  Unloaded : (c : ℕ) → IsMissing loaded p c → fault ≡ missing c → after ≡ before → TellsVerdict loaded p fault before after
  Told : (v : Verdict) → IsVerdict loaded p v → fault ≡ no_fault → after ≡ shown v → TellsVerdict loaded p fault before after

-- the first move of best play, or the move that holds a draw, and none at checkmate and stalemate
pub data TellsMove (loaded : Loaded) (p : Setup) (fault : EgtbFault) (before after : EgtbMove) : Type 0 where
  NotLoaded : (c : ℕ) → IsMissing loaded p c → fault ≡ missing c → after ≡ before → TellsMove loaded p fault before after
  Best : (m : Option Move) → IsBest p m → fault ≡ no_fault → after ≡ written_or_none m → TellsMove loaded p fault before after

-- these are the moves with what they lead to
pub record ShowsRoot (rs : List RootMove) (listed : EgtbRootMoves) : Type 0 where
  pub count : listed.count ≡ length rs
  pub moves : take (length rs) listed.moves ≡ map shown_root rs

-- the legal moves of a position with what they lead to, best first
pub data TellsRoot (loaded : Loaded) (p : Setup) (fault : EgtbFault) (before after : EgtbRootMoves) : Type 0 where
  NoTable : (c : ℕ) → IsMissing loaded p c → fault ≡ missing c → after ≡ before → TellsRoot loaded p fault before after
  Ranked : (rs : List RootMove) → IsRoot loaded p rs → ShowsRoot rs after → fault ≡ no_fault → TellsRoot loaded p fault before after

-- these are the legal moves, in order, each once
pub record Lists (p : Setup) (listed : EgtbMoves) : Type 0 where
  pub moves : List Move
  pub legal : (m : Move) → Contains moves m ↔ IsLegal p m
  pub ordered : IsInOrder moves
  pub count : listed.count ≡ length moves
  pub texts : take (length moves) listed.moves ≡ map written moves

-- the legal moves of a position
pub data TellsMoves (p : Setup) (fault : EgtbFault) (before after : EgtbMoves) : Type 0 where
  Listed : Lists p after → fault ≡ no_fault → TellsMoves p fault before after
