-- A position and those to which its moves lead, by the entries of tables.
use Rattle.std.specs.Prelude.{◌≢◌, ℕ, ◌<◌}
use Rattle.egt_moves.specs.Prelude.{Setup, Value, HasValue, chess, Leads, place_of}
use Rattle.egt_check.specs.Prelude.{Shows}
use Rattle.egt_moves.specs.declared.chess_move.Move.{Move}

-- the entry shows the position's value
pub record ShowsValue (p : Setup) (x : ℕ) : Type 0 where
  pub value : Value
  pub has : HasValue chess p value
  pub shows : Shows x value

-- the move leads to no position whose entry is that
abbrev pub Misses : Setup → ℕ → Move → Type 0
Misses p x m = (q : Setup) → Leads p m q → (y : ℕ) × ShowsValue q y × (y ≢ x)

-- the first move that leads to a position with that entry
pub record IsFirstWith (p : Setup) (x : ℕ) (m : Move) (q : Setup) : Type 0 where
  pub leads : Leads p m q
  pub shows : ShowsValue q x
  pub first : (n : Move) → place_of n < place_of m → Misses p x n
