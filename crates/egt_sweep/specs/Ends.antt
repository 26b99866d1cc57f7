-- Scores of positions without a move.
use Rattle.std.specs.Prelude.{◌≡◌, ℕ, ◌⊎◌}
use Rattle.egt_entries.specs.Prelude.{Setup, Spells, IsAtEnd}

-- the entry of a position without a move, and its score: that of checkmate or that of a draw
abbrev pub AreOfEnd : (entry score : ℕ) → Type 0
AreOfEnd entry score = ((entry ≡ 3) × (score ≡ 255)) ⊎ ((entry ≡ 1) × (score ≡ 128))

-- it is the score of the position that the code spells
abbrev pub IsEndScore : (c code score : ℕ) → Type 0
IsEndScore c code score = (p : Setup) → Spells c code p → (entry : ℕ) × IsAtEnd p entry × AreOfEnd entry score
