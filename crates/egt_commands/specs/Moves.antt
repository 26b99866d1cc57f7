-- The text of all legal moves, one a line.
use Rattle.std.specs.Prelude.{◌≡◌, ◌↔◌, ℕ, List, [], ◌∷◌, ◌++◌}
use Rattle.egt_moves.specs.Prelude.{Contains, Setup, IsLegal, IsInOrder, text_of}
use Rattle.egt_fen.specs.Prelude.{Spells}
use Rattle.egt_table.specs.Prelude.{flat_map}
use Rattle.egt_fen.specs.declared.fen.Fen.{Fen}
use Rattle.egt_moves.specs.declared.chess_move.Move.{Move}

-- each move's text, followed by a line feed
abbrev pub lines_of : List Move → List ℕ
lines_of ms = flat_map (λ m. text_of m ++ 10 ∷ []) ms

-- these are the legal moves, in order, each once
pub record AreLegalMoves (p : Setup) (ms : List Move) : Type 0 where
  pub legal : (m : Move) → Contains ms m ↔ IsLegal p m
  pub ordered : IsInOrder ms

-- the output is the legal moves of the position that the FEN spells
pub record ListsMoves (fen output : List ℕ) : Type 0 where
  pub read : Fen
  pub moves : List Move
  pub spells : Spells fen read
  pub all : AreLegalMoves read.position moves
  pub lines : output ≡ lines_of moves
