-- Targets that a pawn may take, and positions without the others.
use Rattle.std.specs.Prelude.{◌≡◌, ◌⊎◌, None, IfSome}
use Rattle.egt_board.specs.Man.{other_side}
use Rattle.egt_board.specs.Pawn.{ahead, HasPawnBeside}
use Rattle.egt_board.specs.Setup.{Setup}

-- no target, or a pawn of the side to move stands beside the pawn that advanced
abbrev pub IsSettled : Setup → Type 0
IsSettled p = IfSome p.target (λ t. HasPawnBeside p.men p.side (ahead (other_side p.side) t))

-- the same men and side to move, with no target
abbrev pub untargeted : Setup → Setup
untargeted p = record { men = p.men; side = p.side; target = None }

-- q is p, but for a target that no pawn stands ready to take
abbrev pub SettlesTo : Setup → Setup → Type 0
SettlesTo p q = (IsSettled p × (q ≡ p)) ⊎ (¬ IsSettled p × (q ≡ untargeted p))
