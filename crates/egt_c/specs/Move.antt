-- Moves as texts of six bytes.
use Rattle.std.specs.Prelude.{ℕ, List, [], ◌∷◌, ◌++◌, length, drop, Option, Some, None}
use Rattle.egt_moves.specs.declared.chess_move.Move.{Move}
use Rattle.egt_moves.specs.Text.{text_of}
use Rattle.egt_c.specs.declared.moves.EgtbMove.{EgtbMove}

abbrev pub zeros : List ℕ
zeros = 0 ∷ 0 ∷ 0 ∷ 0 ∷ 0 ∷ 0 ∷ []

-- with zeros behind it, six in all
abbrev pub padded : List ℕ → List ℕ
padded text = text ++ drop (length text) zeros

-- of a class's name, five in all
abbrev pub padded_name : List ℕ → List ℕ
padded_name text = text ++ drop (length text) (0 ∷ 0 ∷ 0 ∷ 0 ∷ 0 ∷ [])

abbrev pub written : Move → EgtbMove
written m = record { text = padded (text_of m) }

abbrev pub written_or_none : Option Move → EgtbMove
written_or_none None = record { text = zeros }
written_or_none (Some m) = written m
