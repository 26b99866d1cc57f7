-- Failures of streams are counted, and a stream that fails keeps a beginning of what was to be written.
use Rattle.std.specs.Prelude.{◌≡◌, ℕ, ◌+◌, ◌-◌, ◌^◌, min, List, Option, Result, take, MatchResult}
use Rattle.std.specs.Io.KnownBytes.{Appends}

-- the count after one more failure: it stays at its greatest value
abbrev pub risen : ℕ → ℕ
risen failures = min (failures + 1) (2 ^ 64 - 1)

-- an answer leaves the count of failures, and a failure is counted
abbrev pub CountsFailure : {A E : Type 0} → Result A E → ℕ → ℕ → Type 0
CountsFailure result old new = MatchResult result (λ _. new ≡ old) (λ _. new ≡ risen old)

-- known bytes grew by a beginning of bs
abbrev pub AppendsFront : Option (List ℕ) → Option (List ℕ) → List ℕ → Type 0
AppendsFront old new bs = (n : ℕ) × Appends old new (take n bs)

-- a memory sink: the bytes written, how many there are to be at most, and how many calls failed
pub record Kept : Type 0 where
  pub bytes : List ℕ
  pub room : ℕ
  pub failures : ℕ
