-- The verdict of comparing an entry of the column of the nearest mates with the one that is due.
use Rattle.std.specs.Prelude.{◌≡◌, ◌≢◌, ℕ, ◌<◌, ◌≤◌, Option, Some, None}
use Rattle.egt_entries.specs.declared.rule.Rule.{Rule}
use Rattle.egt_entries.specs.declared.rule.Rule.TheVariants as rules

-- the entry is in range
pub record IsInRange (x : ℕ) : Type 0 where
  pub some : x ≢ 0
  pub short : x ≤ 32002

-- the first rule that the entry x of a position breaks, beside the entry that is due
abbrev pub FindsReach : (x due : ℕ) → Option Rule → Type 0
FindsReach x due None = IsInRange x × (x ≡ due)
FindsReach x due (Some rules.Void) = x ≡ 0
FindsReach x due (Some rules.Range) = 32002 < x
FindsReach x due (Some rules.Kind) = ⊥
FindsReach x due (Some rules.Win) = ⊥
FindsReach x due (Some rules.Loss) = ⊥
FindsReach x due (Some rules.Draw) = ⊥
FindsReach x due (Some rules.Reach) = IsInRange x × (x ≢ 1) × (x ≢ due)
FindsReach x due (Some rules.Dead) = (x ≡ 1) × (x ≢ due)
