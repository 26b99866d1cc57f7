-- Where a man shields a square from attacks: FIDE Laws of Chess 2023, article 3.9.
use Rattle.std.specs.Prelude.{◌≡◌, ◌≢◌, ℕ, ◌⊎◌, ◌↔◌, Some, None}
use Rattle.std.specs.Int.{bit_at}
use Rattle.std.specs.FinMap as map
use Rattle.egt_board.specs.declared.man.Side.{Side}
use Rattle.egt_board.specs.declared.man.Man.{Man}
use Rattle.egt_board.specs.Placement.{Placement, Stands, IsFree}
use Rattle.egt_board.specs.Attack.{IsAttacked}
use Rattle.egt_board.specs.Board.{Slot}
use Rattle.egt_board.specs.AttackLines.{Reaches}

-- with a man come to t, no man of that side attacks the square
abbrev pub IsKeptFrom : Placement → ℕ → Man → ℕ → Side → Type 0
IsKeptFrom men t newcomer square side = ¬ IsAttacked (map.insert men t newcomer) square side

-- a man come to t takes this one, which stands on s, or stops it from attacking the square
abbrev pub Stops : ℕ → Man → ℕ → ℕ → ℕ → Type 0
Stops occupied man s square t = (t ≡ s) ⊎ (¬ Reaches (λ u. (bit_at occupied u ≡ 0) × (u ≢ t)) man s square)

-- so it does with the slot's man, if it is of that side
abbrev pub StopsSlot : ℕ → Side → ℕ → ℕ → Slot → Type 0
StopsSlot occupied side square t None = Unit {0}
StopsSlot occupied side square t (Some e) = e.1.side ≡ side → Stops occupied e.1 e.0 square t

-- to that side's men the board, with these squares occupied, is as `men` are: they stand as there, and the other squares are free
pub record IsSeenAs (board : Placement) (side : Side) (occupied : ℕ) (men : Placement) : Type 0 where
  pub stand : (s : ℕ) (man : Man) → man.side ≡ side → Stands men s man ↔ Stands board s man
  pub free : (u : ℕ) → (bit_at occupied u ≡ 0) ↔ IsFree men u
