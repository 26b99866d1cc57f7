-- Which positions a look reads.
use Rattle.std.specs.Prelude.{ℕ, ◌⊎◌}
use Rattle.egt_steps.specs.Prelude.{other_side, IsBesideKing, with_king}
use Rattle.egt_board.specs.declared.man.Side.{Side}
use Rattle.egt_index.specs.declared.shelf_codes.ShelfMen.{ShelfMen}
use Rattle.egt_sweep.specs.Turns.{TurnsTo}

-- those with the kings on w and b and side s to move are read for these men and that side: some turn takes there the kings as they stand, or as they stand
-- after a step of the king who moves
abbrev pub ReadsKings : (c : ℕ) → ShelfMen → Side → (w b : ℕ) → Side → Type 0
ReadsKings c men side w b s =
    TurnsTo c men.white men.black (other_side side) w b s
    ⊎ ((k : ℕ) × IsBesideKing men side k × TurnsTo c (with_king men side k).white (with_king men side k).black (other_side side) w b s)
