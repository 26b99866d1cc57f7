use Rattle.std.specs.Prelude.{◌≡◌, ℕ, ◌<◌, ◌≤◌, List, length, max}
use Rattle.egt_lanes.specs.Prelude.{at}
use Rattle.egt_lanes.proofs.block.raise_to_max.Given as goal

-- rows below i are raised, and the others are as they were
pub record RaisedRows (out old by : List (List ℕ)) (i : ℕ) : Type 0 where
  pub long : length out ≡ 64
  pub done : (a b : ℕ) → a < i → b < 64 → at out a b ≡ max (at old a b) (at by a b)
  pub left : (a b : ℕ) → i ≤ a → at out a b ≡ at old a b

abbrev pub invariant-loop-i : goal.invariant-loop-i
invariant-loop-i l = RaisedRows l.out l.initial.out l.by l.i
