-- Positions that differ by the square of one man.
use Rattle.std.specs.Prelude.{◌≡◌, ℕ, ◌<◌, Bool, None}
use Rattle.egt_index.specs.Prelude.{other_side, Stands, IsFree, Setup, IsAdmissible, IsOf}
use Rattle.egt_board.specs.declared.man.Man.{Man}
use Rattle.std.specs.FinMap as map

-- the man on `from` went to `to`, where none stood, and nothing else on the board changed; it is the other side's turn, without a
-- target
pub record IsMoved (c : ℕ) (p : Setup) (from to : ℕ) (q : Setup) : Type 0 where
  pub man : Man
  pub stands : Stands p.men from man
  pub free : IsFree p.men to
  pub on_board : to < 64
  pub men : q.men ≡ map.insert (map.remove p.men from) to man
  pub side : q.side ≡ other_side p.side
  pub target : q.target ≡ None
  pub admissible : IsAdmissible q
  pub class : (flipped : Bool) → IsOf c flipped p → IsOf c flipped q
