-- The first bad entry of a column, as far as it is judged.
use Rattle.std.specs.Prelude.{ℕ, ◌<◌, Option, Some, None}
use Rattle.egt_table.specs.Prelude.{TableValue, size_of}
use Rattle.egt_entries.specs.declared.metric.Metric.TheVariants.{Zeroing}
use Rattle.egt_entries.specs.declared.rule.Rule.{Rule}
use Rattle.egt_entries.specs.Rules.{Breaks, IsFirstBroken, KeepsBelow, KeepsReach, KeepsReachBelow}
use Rattle.egt_entries.specs.Tables.{Tables}

-- the one that is known, or that of this index
abbrev pub earlier : Option (ℕ × Rule) → ℕ → Option Rule → Option (ℕ × Rule)
earlier (Some bad) i rule = Some bad
earlier None i (Some rule) = Some (i, rule)
earlier None i None = None

-- the first bad entry below n of the zeroing column and its rule, or that there is none
abbrev pub IsFirstBad : Tables → TableValue → ℕ → Option (ℕ × Rule) → Type 0
IsFirstBad tables t n None = KeepsBelow tables t Zeroing n
IsFirstBad tables t n (Some bad) = (bad.0 < n) × KeepsBelow tables t Zeroing bad.0 × Breaks tables t Zeroing bad.0 bad.1

-- the first bad entry of the column of the nearest mates and its rule
pub record IsFirstBadReach (tables : Tables) (t : TableValue) (i : ℕ) (rule : Rule) : Type 0 where
  pub below : i < size_of t.class
  pub entries : KeepsReachBelow tables t i
  pub breaks : IsFirstBroken (KeepsReach tables t i) rule
