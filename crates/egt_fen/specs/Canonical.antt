-- The one text that is written for a position with its clocks (PGN standard of 1994, section 16.1): six fields
-- with one space between, the longest runs of empty squares, and clocks without leading zeros.
use Rattle.std.specs.Prelude.{ℕ, suc, zero, ◌+◌, ◌*◌, List, [], ◌∷◌, ◌++◌, Option, Some, None}
use Rattle.std.specs.List.{join_with_byte}
use Rattle.std.specs.Fmt.{decimal}
use Rattle.egt_board.specs.Prelude.{Placement, file_of, rank_of}
use Rattle.egt_board.specs.declared.man.Side.{Side}
use Rattle.egt_board.specs.declared.man.Side.TheVariants.{White, Black}
use Rattle.egt_board.specs.declared.man.Man.{Man}
use Rattle.egt_fen.specs.declared.fen.Fen.{Fen}
use Rattle.egt_fen.specs.Letter.{letter_of}
use Rattle.std.specs.FinMap as placement

-- a run of empty squares by its digit; nothing where it has none
abbrev pub gap_text : ℕ → List ℕ
gap_text zero = []
gap_text (suc n) = (49 + n) ∷ []

-- these squares, behind a run of empty ones
abbrev pub squares_text : ℕ → List (Option Man) → List ℕ
squares_text gap [] = gap_text gap
squares_text gap (None ∷ squares) = squares_text (gap + 1) squares
squares_text gap (Some man ∷ squares) = gap_text gap ++ letter_of man ∷ squares_text 0 squares

-- what stands on a rank, from the a-file to the h-file
unfoldable pub squares_of : Placement → ℕ → List (Option Man)
squares_of men rank =
    placement.get men (8 * rank) ∷ placement.get men (8 * rank + 1) ∷ placement.get men (8 * rank + 2) ∷ placement.get men (8 * rank + 3)
    ∷ placement.get men (8 * rank + 4) ∷ placement.get men (8 * rank + 5) ∷ placement.get men (8 * rank + 6) ∷ placement.get men (8 * rank + 7) ∷ []

abbrev pub rank_text : Placement → ℕ → List ℕ
rank_text men rank = squares_text 0 (squares_of men rank)

-- this rank and those below it
abbrev pub ranks_text : Placement → ℕ → List ℕ
ranks_text men zero = rank_text men 0
ranks_text men (suc rank) = rank_text men (suc rank) ++ 47 ∷ ranks_text men rank

unfoldable pub placement_text : Placement → List ℕ
placement_text men = ranks_text men 7

abbrev pub side_text : Side → List ℕ
side_text White = 119 ∷ []
side_text Black = 98 ∷ []

abbrev pub target_text : Option ℕ → List ℕ
target_text None = 45 ∷ []
target_text (Some s) = (97 + file_of s) ∷ (49 + rank_of s) ∷ []

-- the fields of the text
abbrev pub fields_text : Fen → List (List ℕ)
fields_text fen = placement_text fen.position.men ∷ side_text fen.position.side ∷ (45 ∷ []) ∷ target_text fen.position.target ∷ decimal fen.halfmove ∷ decimal fen.fullmove ∷ []

unfoldable pub canonical : Fen → List ℕ
canonical fen = join_with_byte 32 (fields_text fen)
