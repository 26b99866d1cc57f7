-- The codes of the positions after a capture, in the class that is left.
use Rattle.std.specs.Prelude.{◌≡◌, ℕ, ◌⊎◌, Bool}
use Rattle.egt_steps.specs.Prelude.{Reaches, other_side, IsBesideKing, with_king, IsPastKings, Left, left_of, stand_left}
use Rattle.egt_board.specs.declared.man.Side.{Side}
use Rattle.egt_index.specs.TurnedMen.{IsSomeTurnedCode}
use Rattle.egt_index.specs.declared.shelf_codes.ShelfMen.{ShelfMen}

-- that side takes the last man, on b, by its king or by the first man, on a
abbrev pub IsLastTaken : ShelfMen → Side → (a b : ℕ) → Left → Type 0
IsLastTaken men side a b left =
    ((men.last.side ≡ other_side side) × IsBesideKing men side b × (left ≡ left_of (with_king men side b) men.first a))
    ⊎ ((men.first.side ≡ side) × (men.last.side ≡ other_side side) × Reaches (IsPastKings men) men.first a b × (left ≡ left_of men men.first b))

-- the codes of the class that is left, wherever turns take the men
abbrev pub AreLeftCodes : (d : ℕ) (flips : Bool) → ShelfMen → Side → (a b code : ℕ) → Type 0
AreLeftCodes d flips men side a b code = (left : Left) × IsLastTaken men side a b left × IsSomeTurnedCode d code flips (stand_left flips left) (other_side side)

-- the men beside the kings in the other order
abbrev pub men_swapped : ShelfMen → ShelfMen
men_swapped men = record { white = men.white; black = men.black; first = men.last; on = men.on; last = men.first }
