-- Blocks: a list of 64 rows.
use Rattle.std.specs.Prelude.{◌≡◌, ◌≢◌, ℕ, List, [], slice_index, slice_index_or}
use Rattle.std.specs.Int.{bit_at}

-- what stands in that row, at that lane
abbrev pub at : List (List ℕ) → ℕ → ℕ → ℕ
at block a b = slice_index (slice_index_or block a []) b

-- no king stands on u, nor does the last man, who is on b
abbrev pub IsOpen : ℕ → ℕ → ℕ → Type 0
IsOpen kings b u = (bit_at kings u ≡ 0) × (u ≢ b)
