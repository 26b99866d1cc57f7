-- The least number that is shown after some moves.
use Rattle.std.specs.Prelude.{ℕ, ◌≤◌, min, Option, Some, None}
use Rattle.egt_entries.specs.Prelude.{Setup, chess, Leads, Move, longest}

-- the less of two numbers, or the one that is there
abbrev pub nearer : Option ℕ → Option ℕ → Option ℕ
nearer (Some one) (Some other) = Some (min one other)
nearer (Some one) None = Some one
nearer None other = other

-- some step leads to where the number is shown, and none of these moves to where a less one is; or none of them to where one is
abbrev pub IsNearest : (Setup → ℕ → Type 0) → Setup → (Move → Type 0) → Option ℕ → Type 0
IsNearest shows p Among (Some n) =
    (n ≤ longest) × ((q : Setup) × (step : chess.Move p q) × shows q n) × ((q : Setup) (m : Move) → Leads p m q → Among m → (k : ℕ) → shows q k → n ≤ k)
IsNearest shows p Among None = (q : Setup) (m : Move) → Leads p m q → Among m → (k : ℕ) → ¬ shows q k
