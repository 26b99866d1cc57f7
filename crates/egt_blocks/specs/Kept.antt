-- Blocks that are kept: what the men are worth with the kings on two squares.
use Rattle.std.specs.Prelude.{◌≡◌, ℕ, ◌+◌, ◌*◌, ◌/◌, ◌%◌, ◌<◌, min, List, [], length, Option, Some, None, false, IfSome, slice_index_or}
use Rattle.egt_board.specs.declared.man.Side.{Side}
use Rattle.egt_index.specs.declared.shelf_codes.ShelfMen.{ShelfMen}
use Rattle.egt_lanes.specs.Blocks.{at}
use Rattle.egt_table.specs.declared.column.Column.{Column}
use Rattle.egt_table.specs.declared.column.Column.TheVariants.{Mate, Reach, Zeroing}
use Rattle.egt_steps.specs.Stands.{stand_on}
use Rattle.egt_blocks.specs.Blocks.{with_kings}
use Rattle.egt_blocks.specs.Scored.{IsRead}
use Rattle.egt_blocks.specs.declared.kept_blocks.BlockKey.{BlockKey}

-- the key is that of the column's block of these men
abbrev pub key_of : Column → ShelfMen → Option BlockKey
key_of column men = Some (record { column = column; white = men.white; black = men.black })

abbrev pub IsOfMen : Option BlockKey → Column → ShelfMen → Type 0
IsOfMen key column men = key ≡ key_of column men

-- the block, if it has a key, holds the scores of the positions with its kings where that side is to move
abbrev pub IsKept : (c : ℕ) → (worth : Column → ℕ → ℕ) → ShelfMen → Side → Option BlockKey → List (List ℕ) → Type 0
IsKept c worth men side key block = IfSome key (λ k. (a b : ℕ) → a < 64 → b < 64 → IsRead c (worth k.column) false (stand_on (with_kings men k.white k.black) a b) side (at block a b))

-- which of the two places of a pair of kings is the column's
abbrev pub second_place : Column → ℕ
second_place Mate = 0
second_place Zeroing = 1
second_place Reach = 0

-- the place of a column's block of these kings, among so many places; the white king's file is one of the first five
abbrev pub wide_place : Column → (white black places : ℕ) → ℕ
wide_place column white black places = (2 * (64 * (5 * (white / 8) + min (white % 8) 4) + black) + second_place column) % places

-- the key, if it is one, stands at its place
abbrev pub IsPlaced : (places : ℕ) → Option BlockKey → ℕ → Type 0
IsPlaced places key i = IfSome key (λ k. (k.white < 64) × (k.black < 64) × (i ≡ wide_place k.column k.white k.black places))

-- so does each block of these, of which there are as many as keys, and each key stands at its place
pub record AreKept (c : ℕ) (worth : Column → ℕ → ℕ) (men : ShelfMen) (side : Side) (keys : List (Option BlockKey)) (blocks : List (List (List ℕ))) : Type 0 where
  pub some : 0 < length keys
  pub as_many : length blocks ≡ length keys
  pub each : (i : ℕ) → i < length keys → IsKept c worth men side (slice_index_or keys i None) (slice_index_or blocks i [])
  pub placed : (i : ℕ) → i < length keys → IsPlaced (length keys) (slice_index_or keys i None) i
