-- The men of a shelf on squares: the first and the last one beside the kings, and where their kings may go.
use Rattle.std.specs.Prelude.{◌≡◌, ℕ, ◌<◌}
use Rattle.egt_index.specs.Prelude.{bit_at, king_of, Reaches, stand_with}
use Rattle.egt_board.specs.declared.man.Side.{Side}
use Rattle.egt_board.specs.declared.man.Side.TheVariants.{White, Black}
use Rattle.egt_index.specs.declared.shelf_codes.ShelfMen.{ShelfMen}
use Rattle.egt_index.specs.declared.stand.Stand.{Stand}

-- the men with the first one on the square
abbrev pub men_on : ShelfMen → ℕ → ShelfMen
men_on men a = record { white = men.white; black = men.black; first = men.first; on = a; last = men.last }

-- the men with the first and the last one on these squares
abbrev pub stand_on : ShelfMen → (a b : ℕ) → Stand
stand_on men a b = stand_with (men_on men a) b

-- the men with that side's king on the square
abbrev pub with_king : ShelfMen → Side → ℕ → ShelfMen
with_king men White k = record { white = k; black = men.black; first = men.first; on = men.on; last = men.last }
with_king men Black k = record { white = men.white; black = k; first = men.first; on = men.on; last = men.last }

-- the square of that side's king
abbrev pub king_of_men : ShelfMen → Side → ℕ
king_of_men men White = men.white
king_of_men men Black = men.black

-- the squares beside that side's king
abbrev pub IsBesideKing : ShelfMen → Side → ℕ → Type 0
IsBesideKing men side k = (k < 64) × Reaches (λ u. bit_at 0 u ≡ 0) (king_of side) (king_of_men men side) k
