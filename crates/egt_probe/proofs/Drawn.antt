-- Drawn positions.
use Rattle.std.proofs.Common.{◌≢◌, ℕ, zero, suc, ◌≤◌, Option, Some, None, IsSome, refl, inr, arith}
use Rattle.egt_probe.specs.Prelude.{Setup, Value, Win, Loss, Draw, HasValue, MatesWithin, chess, IsStuck, IsStalemate}
use Rattle.egt_probe.specs.Prelude.{CanMove, Move, Shows, Facts, IsHold, Misses}
use Rattle.egt_probe.proofs.SameKinds.{lost_within}

module _ (facts : Facts) (p : Setup) (drawn : HasValue chess p Draw) where
  -- a move to no drawn position leads to a won one, won within a bound
  won_after : (bound : ℕ) → 32000 ≤ bound → (q : Setup) → chess.Move p q → (x : ℕ) (v : Value) → HasValue chess q v → Shows x v → x ≢ 1 → MatesWithin chess bound q
  won_after bound le q m x (Win zero) has shows other = absurd has
  won_after bound le q m x (Win (suc n)) has shows other = facts.more_mates (suc n) bound q (let short = shows.0.1 in omega (arith, le, short)) has.0
  won_after bound le q m x (Loss n) has shows other = absurd (facts.mated_once n q (lost_within n q has) ((drawn (suc n)).1 q m))
  won_after bound le q m x Draw has shows other = absurd (other shows.1)

  stuck_within : (bound : ℕ) → 32000 ≤ bound → ((m : Move) → Misses p 1 m) → IsStuck p
  stuck_within bound le none m legal =
      facts.mated_once (suc bound) p
      (inr ((legal.0, (m, legal.1)), λ q step. let miss = none step.0 q step.1 in won_after bound le q step miss.0 miss.1.value miss.1.has miss.1.shows miss.2))
      (drawn (suc bound)).0

  -- where no move leads to a drawn position, it is stalemate
  pub stalemate : ((m : Move) → Misses p 1 m) → IsStalemate p
  stalemate none =
      let stuck : IsStuck p = stuck_within 32000 (omega arith) none in
      record { stuck = stuck; quiet = λ check. (drawn 0).0 (record { stuck = stuck; check = check }) }

-- where there is a legal move, one holds the draw
pub held : (p : Setup) (o : Option Move) → CanMove p → IsHold p o → IsSome o
held p None moves hold = absurd (hold.1.stuck moves.move moves.legal)
held p (Some m) moves hold = refl
