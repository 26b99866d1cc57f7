-- Best play: the line by which the winner mates as soon as can be, and the loser is mated as late as can be.
use Rattle.std.specs.Prelude.{◌≡◌, ℕ, zero, suc, ◌<◌, List, [], ◌∷◌, Option, Some, None}
use Rattle.egt_moves.specs.Prelude.{Setup, Value, Win, Loss, Draw, HasValue, chess, Leads, place_of, IsCheckmate}
use Rattle.egt_moves.specs.declared.chess_move.Move.{Move}

-- m leads to q, which has that value, and no move before m in the order of moves leads to a position with it
pub record IsFirstTo (v : Value) (p : Setup) (m : Move) (q : Setup) : Type 0 where
  pub leads : Leads p m q
  pub value : HasValue chess q v
  pub first : (n : Move) (r : Setup) → place_of n < place_of m → Leads p n r → ¬ HasValue chess r v

-- the value that best play goes on to: from a win in k plies a loss in k - 1, from a loss in k plies a win in k - 1
abbrev pub next_value : Value → Option Value
next_value (Win (suc n)) = Some (Loss n)
next_value (Loss (suc n)) = Some (Win n)
next_value (Win zero) = None
next_value (Loss zero) = None
next_value Draw = None

abbrev pub plies_of : Value → ℕ
plies_of (Win n) = n
plies_of (Loss n) = n
plies_of Draw = 0

-- the moves of best play from p, which has the value v, to checkmate
abbrev pub IsLine : Setup → Value → List Move → Type 0
IsLine p v [] = (v ≡ Loss 0) × IsCheckmate p
IsLine p v (m ∷ ms) = HasValue chess p v × ((w : Value) × (q : Setup) × (next_value v ≡ Some w) × IsFirstTo w p m q × IsLine q w ms)

-- the position is won or lost, and these are the moves of best play
pub record IsBestPlay (p : Setup) (ms : List Move) : Type 0 where
  pub value : Value
  pub has : HasValue chess p value
  pub line : IsLine p value ms
