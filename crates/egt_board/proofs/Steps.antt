-- A bit of either of two sets.
use Rattle.std.proofs.Common.{◌≡◌, ℕ, ◌<◌, ◌↔◌, arith, ◌⊎◌, max}
use Rattle.egt_board.specs.Prelude.{cases_eq}

-- a square of either set
pub bit_of_either : (a b m : ℕ) → a < 2 → b < 2 → m ≡ max a b → (m ≡ 1) ↔ ((a ≡ 1) ⊎ (b ≡ 1))
bit_of_either a b m a_bit b_bit e = grind (arith, cases_eq)
