-- The legal moves of a position as a list.
use Rattle.std.specs.Prelude.{ℕ, zero, suc, Bool, List, [], ◌∷◌, ◌++◌, map, Option, Some, None}
use Rattle.std.proofs.Common.{inl, inr}
use Rattle.std.specs.List.{filter}
use Rattle.egt_board.specs.Prelude.{Setup, Decided, tells}
use Rattle.egt_board.specs.declared.man.Kind.{Kind}
use Rattle.egt_board.specs.declared.man.Kind.TheVariants.{Q, R, B, N, P, K}
use Rattle.egt_moves.specs.declared.chess_move.Move.{Move}
use Rattle.egt_moves.specs.Legal.{IsLegal}
use Rattle.egt_moves.specs.DecidedMoves.{decided_legal}

-- what a move may promote to, in order
abbrev pub promotions : List (Option Kind)
promotions = None ∷ Some Q ∷ Some R ∷ Some B ∷ Some N ∷ Some P ∷ Some K ∷ []

-- the moves between two squares, in order
abbrev pub moves_between : ℕ → ℕ → List Move
moves_between from to = map (λ promo. record { from = from; to = to; promo = promo }) promotions

-- the moves from the one square to those below n, in order
unfoldable pub moves_from : ℕ → ℕ → List Move
moves_from from zero = []
moves_from from (suc n) = moves_from from n ++ moves_between from n

-- the moves from the squares below n, in order
unfoldable pub moves_below : ℕ → List Move
moves_below zero = []
moves_below (suc n) = moves_below n ++ moves_from n 64

-- all moves on the board, in order, legal or not
unfoldable pub all_moves : List Move
all_moves = moves_below 64

abbrev pub is_legal : Setup → Move → Bool
is_legal p m = tells (decided_legal p m)

-- where a move leads, if it is legal
abbrev pub led_to : {p : Setup} {m : Move} → Decided (IsLegal p m) → Option Setup
led_to (inl legal) = Some legal.0
led_to (inr illegal) = None

abbrev pub played : Setup → Move → Option Setup
played p m = led_to (decided_legal p m)

-- the legal moves, in order
unfoldable pub moves_of : Setup → List Move
moves_of p = filter (is_legal p) all_moves
