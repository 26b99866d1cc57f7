-- The search for a pawn on the first rank or the last.
use Rattle.std.proofs.Common.{◌≡◌, ◌≢◌, ℕ, ◌<◌, ◌⊎◌, ◌↔◌, arith, true}
use Rattle.egt_board.specs.Prelude.{bit_at, is_some, cases_eq, Man, Placement, Stands, IsFree, MayStand}
use Rattle.std.specs.FinMap as map
use Rattle.egt_board.proofs.Bits.{not_both}

-- the pawns that are not left stand neither on the first rank nor on the last, and each square left holds a man
pub record FitSoFar (men : Placement) (rest : ℕ) : Type 0 where
  pub fit : (s : ℕ) (man : Man) → Stands men s man → (bit_at rest s ≡ 1) ⊎ MayStand man s
  pub held : (s : ℕ) → bit_at rest s ≡ 1 → is_some (map.get men s) ≡ true

pub FitSoFar-init : (men : Placement) (rest : ℕ) → ((s : ℕ) → bit_at rest s < 2) → ((s : ℕ) → (bit_at rest s ≡ 0) ↔ IsFree men s) → FitSoFar men rest
FitSoFar-init men rest small free = grind (arith, cases_eq, not_both, is_some)

-- one square less, on which no pawn stands but on the ranks between
pub FitSoFar-less : (men : Placement) (rest rest' s : ℕ) → FitSoFar men rest → bit_at rest' s ≡ 0 → ((u : ℕ) → u ≢ s → bit_at rest' u ≡ bit_at rest u) → ((man : Man) → Stands men s man → MayStand man s) → FitSoFar men rest'
FitSoFar-less men rest rest' s so_far gone others fits = grind (arith, cases_eq, not_both)
