-- A stream that fails at one call.
use Rattle.std.specs.Prelude.{ℕ}

-- the stream within, which of the calls to come fails (counted from 1, 0 for none), and how many calls failed
pub record Failing (S : Type 0) : Type 0 where
  pub inner : S
  pub calls_to_failure : ℕ
  pub failures : ℕ
