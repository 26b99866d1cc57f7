-- The line that tells of a search for mate.
use Rattle.std.specs.Prelude.{◌≡◌, ℕ, ◌+◌, List, [], ◌∷◌, ◌++◌, codes}
use Rattle.egt_moves.specs.Prelude.{AnswersWithin, chess, found}
use Rattle.egt_fen.specs.Prelude.{Spells}
use Rattle.egt_board.specs.declared.man.Side.{Side}
use Rattle.egt_board.specs.declared.man.Side.TheVariants.{White, Black}
use Rattle.egt_fen.specs.declared.fen.Fen.{Fen}
use Rattle.egt_moves.specs.declared.found.Search.{Search}
use Rattle.egt_moves.specs.declared.found.Search.TheVariants.{Mate, NotWithin}

abbrev pub side_name : Side → List ℕ
side_name White = codes "white"
side_name Black = codes "black"

-- a number of plies below 10, with a line feed
abbrev pub plies_text : ℕ → List ℕ
plies_text n = (48 + n) ∷ codes " plies" ++ 10 ∷ []

abbrev pub mate_line : Side → ℕ → List ℕ
mate_line winner n = side_name winner ++ codes " mates in " ++ plies_text n

abbrev pub no_mate_line : ℕ → List ℕ
no_mate_line n = codes "no mate within " ++ plies_text n

-- what a search of so many plies tells
abbrev pub line_of : ℕ → Search → List ℕ
line_of n (Mate winner within) = mate_line winner within
line_of n NotWithin = no_mate_line n

-- the output tells the value of the position that the FEN spells, if it is decided within so many plies
pub record TellsMate (plies : ℕ) (fen output : List ℕ) : Type 0 where
  pub read : Fen
  pub told : Search
  pub spells : Spells fen read
  pub answers : AnswersWithin chess plies read.position (found read.position.side told)
  pub line : output ≡ line_of plies told
