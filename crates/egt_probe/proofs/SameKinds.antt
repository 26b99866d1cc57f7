-- The value of a position and its zeroing distance are of one kind: both wins, both losses or both draws.
use Rattle.std.specs.Prelude.{ℕ, zero, suc}
use Rattle.egt_probe.specs.Prelude.{Setup, Value, Win, Loss, Draw, HasValue, IsMatedWithin, chess, SameKind, HasZeroing}
use Rattle.egt_probe.specs.Prelude.{Facts}

-- a loss in n plies is a mate within n
pub lost_within : (n : ℕ) (p : Setup) → HasValue chess p (Loss n) → IsMatedWithin chess n p
lost_within zero p h = h
lost_within (suc n) p h = h.0

module _ (facts : Facts) (p : Setup) where
  pub same_kind : (v w : Value) → HasValue chess p v → HasZeroing chess p w → SameKind v w
  same_kind (Win zero) w h z = absurd h
  same_kind (Win (suc n)) (Win k) h z = tt
  same_kind (Win (suc n)) (Loss zero) h z = absurd (facts.won_or_lost (suc n) 0 p h.0 z)
  same_kind (Win (suc n)) (Loss (suc k)) h z = absurd (facts.won_or_lost (suc n) z.0.0 p h.0 z.0.1)
  same_kind (Win (suc n)) Draw h z = absurd (facts.mates_once (suc n) p h.0 (z (suc n)).1)
  same_kind (Loss n) (Win zero) h z = absurd z
  same_kind (Loss n) (Win (suc k)) h z = absurd (facts.won_or_lost z.0.0 n p z.0.1 (lost_within n p h))
  same_kind (Loss n) (Loss k) h z = tt
  same_kind (Loss n) Draw h z = absurd (facts.mated_once n p (lost_within n p h) (z n).0)
  same_kind Draw (Win zero) h z = absurd z
  same_kind Draw (Win (suc k)) h z = absurd (facts.mates_once z.0.0 p z.0.1 (h z.0.0).1)
  same_kind Draw (Loss zero) h z = absurd ((h 0).0 z)
  same_kind Draw (Loss (suc k)) h z = absurd (facts.mated_once z.0.0 p z.0.1 (h z.0.0).0)
  same_kind Draw Draw h z = tt
