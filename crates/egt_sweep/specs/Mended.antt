-- Tables some of whose entries were put anew.
use Rattle.std.specs.Prelude.{◌≡◌, ◌≢◌, ℕ, ◌+◌, ◌<◌, ◌⊎◌, Bool, List, [], slice_index, slice_index_or}
use Rattle.egt_check.specs.Prelude.{bit_at, Has, due_score, code_of, kind_digits, kind_less, IsShelfOf, IsWithin}
use Rattle.egt_check.specs.Prelude.{number_in, TellsMen, men_on, HasColumn, TableValue, entries_of, column_of, table_in}
use Rattle.egt_check.specs.Prelude.{IsRightAtOf, IsRightEndOf, due_in, HasBytes, column_score, score_at}
use Rattle.egt_sweep.specs.Prelude.{Column, Mate, Zeroing}
use Rattle.egt_board.specs.declared.man.Side.{Side}
use Rattle.egt_board.specs.declared.square_set.SquareSet.{SquareSet}
use Rattle.egt_index.specs.declared.stand.Stand.{Stand}
use Rattle.egt_check.specs.declared.part.Part.{Part}
use Rattle.egt_check.specs.declared.part.Part.TheVariants.{Values, Reach}
use Rattle.egt_check.specs.declared.shelf.Shelf.{Shelf}
use Rattle.egt_table.specs.declared.column.Column.TheVariants as columns

-- the code tells men of the class with the kings on these squares and that side to move
pub record IsOfKings (c white black : ℕ) (side : Side) (code : ℕ) : Type 0 where
  pub targeted : Bool
  pub stand : Stand
  pub tells : TellsMen targeted c code stand side
  pub white_is : stand.white ≡ white
  pub black_is : stand.black ≡ black

-- the new table is the old one but for entries of the part at such codes, and its bytes tell its entries of the part
pub record IsMendedAt (part : Part) (At : ℕ → Type 0) (old new : TableValue) : Type 0 where
  pub class : new.class ≡ old.class
  pub there : (column : Column) → HasColumn column old → HasColumn column new
  pub same : (column : Column) (code : ℕ) → (slice_index (entries_of column new) code ≡ slice_index (entries_of column old) code) ⊎ At code
  pub mate : part ≡ Reach → new.mate ≡ old.mate
  pub zeroing : part ≡ Reach → new.zeroing ≡ old.zeroing
  pub reach : part ≡ Values → new.reach ≡ old.reach
  pub bytes : HasBytes (table_in part new)

-- at codes of positions with the kings on these squares and that side to move
abbrev pub IsMended : Part → (white black : ℕ) → Side → (old new : TableValue) → Type 0
IsMended part white black side old new = IsMendedAt part (IsOfKings old.class white black side) old new

-- the part's entries at the code have these scores; the second is of the zeroing column alone
abbrev pub IsPutAt : Part → TableValue → (code score clock : ℕ) → Type 0
IsPutAt Values t code score clock = (score_at t Mate code ≡ score) × (score_at t Zeroing code ≡ clock)
IsPutAt Reach t code score clock = column_score t columns.Reach code ≡ score

-- the shelf's number is that of its men, of positions with a target where one was passed
pub record IsShelf (c : ℕ) (shelf : Shelf) : Type 0 where
  pub of : IsShelfOf shelf.targeted c shelf.number shelf.men
  pub within : IsWithin c shelf.number

-- the code is the shelf's with the last man on one of these squares
abbrev pub IsLaneOf : (c : ℕ) → Shelf → SquareSet → ℕ → Type 0
IsLaneOf c shelf lanes code = (digit : ℕ) × (digit < kind_digits shelf.men.last.kind) × Has lanes (digit + kind_less shelf.men.last.kind) × (code ≡ code_of c (number_in c shelf.number shelf.side digit))

-- at such codes the part's entries tell checkmate or stalemate
abbrev pub AreEnded : Part → TableValue → Shelf → SquareSet → Type 0
AreEnded part t shelf lanes = (digit : ℕ) → digit < kind_digits shelf.men.last.kind → Has lanes (digit + kind_less shelf.men.last.kind) → IsRightEndOf part t (code_of t.class (number_in t.class shelf.number shelf.side digit))

-- the score of the part's entry at the shelf's code
abbrev pub score_in : Part → TableValue → Shelf → ℕ → ℕ
score_in part t shelf digit = column_score t (column_of part) (code_of t.class (number_in t.class shelf.number shelf.side digit))

-- what is to be put at a row's squares, by the greatest scores of the moves: `wrong` has those where the entries are not due to them, and `ends` those without a move
-- that `ended` lacks
pub record IsRowSeen (part : Part) (t : TableValue) (shelf : Shelf) (scores zeroing : List ℕ) (ended wrong ends : SquareSet) : Type 0 where
  pub due : (digit : ℕ) → digit < kind_digits shelf.men.last.kind → score_in part t shelf digit ≢ 0 → slice_index scores (digit + kind_less shelf.men.last.kind) ≢ 0 → bit_at wrong.bits (digit + kind_less shelf.men.last.kind) ≡ 0 →
      IsPutAt part t (code_of t.class (number_in t.class shelf.number shelf.side digit)) (due_in part (slice_index scores (digit + kind_less shelf.men.last.kind))) (due_score (slice_index zeroing (digit + kind_less shelf.men.last.kind)))
  pub moving : (digit : ℕ) → digit < kind_digits shelf.men.last.kind → Has wrong (digit + kind_less shelf.men.last.kind) → slice_index scores (digit + kind_less shelf.men.last.kind) ≢ 0
  pub end : (digit : ℕ) → digit < kind_digits shelf.men.last.kind → score_in part t shelf digit ≢ 0 → slice_index scores (digit + kind_less shelf.men.last.kind) ≡ 0 → bit_at ended.bits (digit + kind_less shelf.men.last.kind) ≡ 0 → Has ends (digit + kind_less shelf.men.last.kind)
  pub still : (digit : ℕ) → digit < kind_digits shelf.men.last.kind → Has ends (digit + kind_less shelf.men.last.kind) → slice_index scores (digit + kind_less shelf.men.last.kind) ≡ 0

-- the part's entries of the row are due to the greatest scores of the moves, or tell checkmate or stalemate
abbrev pub IsRightRow : Part → TableValue → Shelf → (scores zeroing : List ℕ) → Type 0
IsRightRow part t shelf scores zeroing = (digit : ℕ) → digit < kind_digits shelf.men.last.kind → score_in part t shelf digit ≢ 0 →
    IsRightAtOf part t (code_of t.class (number_in t.class shelf.number shelf.side digit)) (slice_index scores (digit + kind_less shelf.men.last.kind)) (slice_index zeroing (digit + kind_less shelf.men.last.kind))

-- the code is one of the shelf's
abbrev pub IsCodeOf : (c : ℕ) → Shelf → ℕ → Type 0
IsCodeOf c shelf code = (digit : ℕ) × (digit < kind_digits shelf.men.last.kind) × (code ≡ code_of c (number_in c shelf.number shelf.side digit))

-- of the shelves of these men from this one on, that with the first man's digit
abbrev pub shelf_at : Shelf → ℕ → Shelf
shelf_at shelves digit = record {
  number = shelves.number + digit;
  men = men_on shelves.men (digit + kind_less shelves.men.first.kind);
  side = shelves.side;
  targeted = shelves.targeted;
}

-- the code is of one of the shelves of these men from this one on
abbrev pub IsCodeIn : (c : ℕ) → Shelf → ℕ → Type 0
IsCodeIn c shelves code = (x : ℕ) × (x < kind_digits shelves.men.first.kind) × IsCodeOf c (shelf_at shelves x) code

-- no squares
abbrev pub no_squares : SquareSet
no_squares = record { bits = 0 }

-- in each of these shelves, by the first man's square, the entries tell checkmate or stalemate at these squares of the last one
abbrev pub AllEnded : Part → TableValue → Shelf → List SquareSet → Type 0
AllEnded part t shelves ended = (x : ℕ) → x < kind_digits shelves.men.first.kind → AreEnded part t (shelf_at shelves x) (slice_index_or ended (x + kind_less shelves.men.first.kind) no_squares)

-- the entries of the first so many of them are due
abbrev pub AreRightRows : Part → TableValue → Shelf → (scores zeroing : List (List ℕ)) → ℕ → Type 0
AreRightRows part t shelves scores zeroing many = (x : ℕ) → x < many →
    IsRightRow part t (shelf_at shelves x) (slice_index_or scores (x + kind_less shelves.men.first.kind) []) (slice_index_or zeroing (x + kind_less shelves.men.first.kind) [])
