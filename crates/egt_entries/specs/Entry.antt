-- An entry shows: 1 a draw, 2 + 2n a win in n plies, n from 1 to 32,000, and 3 + 2n a loss in n plies, n from 0 to 32,000;
-- any other nothing.
use Rattle.std.specs.Prelude.{◌≡◌, ℕ, ◌+◌, ◌*◌, ◌<◌, ◌≤◌}
use Rattle.egt_moves.specs.WinLossDraw.{Value, Win, Loss, Draw}

abbrev pub longest : ℕ
longest = 32000

-- an entry has room for it
abbrev pub IsShort : Value → Type 0
IsShort (Win n) = (0 < n) × (n ≤ longest)
IsShort (Loss n) = n ≤ longest
IsShort Draw = Unit {0}

abbrev pub entry_of : Value → ℕ
entry_of (Win n) = 2 + 2 * n
entry_of (Loss n) = 3 + 2 * n
entry_of Draw = 1

abbrev pub Shows : ℕ → Value → Type 0
Shows x v = IsShort v × (x ≡ entry_of v)
