use Rattle.std.specs.Prelude.{ℕ, ◌<◌, ◌≢◌, false}
use Rattle.egt_index.specs.Prelude.{king_square}
use Rattle.egt_index.proofs.digits.place.Given as goal

-- the squares so far are others
abbrev pub invariant-loop-place : goal.invariant-loop-place
invariant-loop-place l = record { others : (place : ℕ) → place < l.place → king_square false place ≢ l.square }
