-- The moves that go on in a class's game, as relations.
use Rattle.std.specs.Prelude.{ℕ, IsTrue}
use Rattle.egt_check.specs.Prelude.{Setup, Spells, IsIndex, Zeroes, Leads}
use Rattle.egt_moves.specs.declared.chess_move.Move.{Move}
use Rattle.egt_unmoves.specs.declared.unmove.Unmove.{Unmove}
use Rattle.egt_entries.specs.declared.metric.Metric.{Metric}
use Rattle.egt_entries.specs.declared.metric.Metric.TheVariants.{Mate, Zeroing}

-- the position that the index spells
pub record IsAt (c i : ℕ) (p : Setup) : Type 0 where
  pub spells : Spells c i p
  pub index : IsIndex c p i

-- the move from p to q goes on in the game: it stays in the class, or does not zero
abbrev pub GoesOn : Metric → ℕ → Setup → Move → Setup → Type 0
GoesOn Mate c p m q = (i : ℕ) × IsIndex c q i
GoesOn Zeroing c p m q = ¬ Zeroes p m

-- a move that goes on leads from the position at i to one whose index is j
pub record Connects (metric : Metric) (c i j : ℕ) : Type 0 where
  pub from : Setup
  pub at : IsAt c i from
  pub move : Move
  pub to : Setup
  pub leads : Leads from move to
  pub on : GoesOn metric c from move to
  pub index : IsIndex c to j

-- the legal move goes on to a position whose index is k
abbrev pub LeadsOn : Metric → ℕ → Setup → Move → ℕ → Type 0
LeadsOn metric c p m k = (q : Setup) × Leads p m q × GoesOn metric c p m q × IsIndex c q k

-- moves of the game take the unmove back: in the game of zeroing moves a pawn's do not
abbrev pub GoesBack : Metric → Unmove → Type 0
GoesBack Mate u = Unit {0}
GoesBack Zeroing u = ¬ IsTrue u.pawn

-- the position before has the index k, and its move goes on
abbrev pub ComesFrom : Metric → ℕ → Unmove → ℕ → Type 0
ComesFrom metric c u k = GoesBack metric u × IsIndex c u.before k
