-- Entries of both columns at a code, which show a win, a loss or a draw alike.
use Rattle.std.specs.Prelude.{◌≡◌, ◌⊎◌, ℕ, ◌%◌, ◌<◌}

-- both are of wins or both of losses, and have bytes of their own
pub record AreDecided (mate zeroing : ℕ) : Type 0 where
  pub mate_some : 2 < mate
  pub zeroing_some : 2 < zeroing
  pub mate_low : mate < 254
  pub zeroing_low : zeroing < 254
  pub parity : mate % 2 ≡ zeroing % 2

-- so are they, or both are 0, where there is no position, or both 1, of a draw
abbrev pub AreVoidOrAlike : (mate zeroing : ℕ) → Type 0
AreVoidOrAlike mate zeroing = ((mate ≡ zeroing) × (mate < 2)) ⊎ AreDecided mate zeroing
