-- The order of moves: by the square left, then the square arrived at, then the promotion q, r, b, n.
use Rattle.std.specs.Prelude.{ℕ, ◌+◌, ◌*◌, ◌<◌, List, [], ◌∷◌, Option, Some, None}
use Rattle.std.specs.List.{Contains}
use Rattle.egt_board.specs.declared.man.Kind.{Kind}
use Rattle.egt_board.specs.declared.man.Kind.TheVariants.{Q, R, B, N, P, K}
use Rattle.egt_moves.specs.declared.chess_move.Move.{Move}

abbrev pub promotion_place : Option Kind → ℕ
promotion_place None = 0
promotion_place (Some Q) = 1
promotion_place (Some R) = 2
promotion_place (Some B) = 3
promotion_place (Some N) = 4
promotion_place (Some P) = 5
promotion_place (Some K) = 6

-- a number that is less for the move that comes first
abbrev pub place_of : Move → ℕ
place_of m = (m.from * 64 + m.to) * 8 + promotion_place m.promo

-- each move comes before those behind it
abbrev pub IsInOrder : List Move → Type 0
IsInOrder [] = Unit {0}
IsInOrder (m ∷ ms) = ((n : Move) → Contains ms n → place_of m < place_of n) × IsInOrder ms
