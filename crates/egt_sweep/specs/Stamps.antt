-- When entries last changed, by the kings' squares and the side to move.
use Rattle.std.specs.Prelude.{ℕ, ◌+◌, ◌*◌, ◌<◌, ◌≤◌, List, slice_index}
use Rattle.egt_board.specs.Images.{side_number}
use Rattle.egt_board.specs.declared.man.Side.{Side}
use Rattle.egt_index.specs.declared.shelf_codes.ShelfMen.{ShelfMen}
use Rattle.egt_sweep.specs.Reads.{ReadsKings}

-- the place of the stamp
abbrev pub stamp_place : Side → (white black : ℕ) → ℕ
stamp_place side white black = 4096 * side_number side + 64 * white + black

-- no positions that are read for these men and that side have changed since
abbrev pub IsFresh : (c : ℕ) → ShelfMen → Side → (stamps : List ℕ) → (looked : ℕ) → Type 0
IsFresh c men side stamps looked = (0 < looked) × ((w b : ℕ) (s : Side) → ReadsKings c men side w b s → slice_index stamps (stamp_place s w b) ≤ looked)
