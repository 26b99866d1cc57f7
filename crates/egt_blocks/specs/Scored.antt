-- Scores of the men of a class on their squares, by a function from codes to scores.
use Rattle.std.specs.Prelude.{◌≡◌, ℕ, Bool, false}
use Rattle.egt_index.specs.Prelude.{IsVoid, IsSomeTurnedCodeWith}
use Rattle.egt_lanes.specs.Prelude.{IsRaised}
use Rattle.egt_board.specs.declared.man.Side.{Side}
use Rattle.egt_index.specs.declared.stand.Stand.{Stand}

-- the codes of no position are worth nothing
abbrev pub ScoresNoVoids : (c : ℕ) → (worth : ℕ → ℕ) → Type 0
ScoresNoVoids c worth = (code : ℕ) → IsVoid c code → worth code ≡ 0

-- the greatest score of the codes that tell the men where turns take them, and a target where one was passed
abbrev pub IsReadWith : (targeted : Bool) → (c : ℕ) → (worth : ℕ → ℕ) → Bool → Stand → Side → ℕ → Type 0
IsReadWith targeted c worth flips stand side w = IsRaised 0 (λ code. IsSomeTurnedCodeWith targeted c code flips stand side) worth w

-- and no target
abbrev pub IsRead : (c : ℕ) → (worth : ℕ → ℕ) → Bool → Stand → Side → ℕ → Type 0
IsRead = IsReadWith false
