-- The rules that a table's entries are judged by, each beside the entries of the successors.
use Rattle.std.specs.Prelude.{◌≡◌, ◌≢◌, ℕ, ◌<◌, ◌≤◌, ◌↔◌, Option, Some, None, IsSome}
use Rattle.egt_moves.specs.Prelude.{Setup, Value, Win, Loss, Draw, SameKind}
use Rattle.egt_index.specs.Prelude.{Spells, IsVoid, size_of}
use Rattle.egt_table.specs.Prelude.{TableValue}
use Rattle.egt_entries.specs.declared.metric.Metric.{Metric}
use Rattle.egt_entries.specs.declared.metric.Metric.TheVariants.{Mate, Zeroing}
use Rattle.egt_table.specs.declared.column.Column.{Column}
use Rattle.egt_entries.specs.declared.rule.Rule.{Rule}
use Rattle.egt_entries.specs.Entry.{Shows}
use Rattle.egt_entries.specs.Tables.{Tables, entry_at, reach_at, ShowsOf}
use Rattle.egt_entries.specs.Fits.{FitsBeside}
use Rattle.egt_entries.specs.Reach.{FitsReachBeside, ShowsReach, ShowsReachOf}
use Rattle.egt_table.specs.declared.column.Column.TheVariants as columns
use Rattle.egt_entries.specs.declared.rule.Rule.TheVariants as rules

-- where the entry shows this value, the value fits the position that the code spells
abbrev pub Fits : Tables → TableValue → Metric → ℕ → Value → Type 0
Fits tables t metric i v = Shows (entry_at t metric i) v → (p : Setup) → Spells t.class i p → FitsBeside (ShowsOf tables) metric p v

-- the zeroing entry shows a win, a loss or a draw as the mate entry does
abbrev pub AgreesInKind : TableValue → Metric → ℕ → Type 0
AgreesInKind t Mate i = Unit {0}
AgreesInKind t Zeroing i = (v w : Value) → Shows (entry_at t Mate i) v → Shows (entry_at t Zeroing i) w → SameKind v w

-- the entry at the index i of table t keeps the rule, beside the tables
abbrev pub Keeps : Tables → TableValue → Metric → ℕ → Rule → Type 0
Keeps tables t metric i rules.Void = (entry_at t metric i ≡ 0) ↔ IsVoid t.class i
Keeps tables t metric i rules.Range = (entry_at t metric i ≢ 2) × (entry_at t metric i ≤ 64003)
Keeps tables t metric i rules.Kind = AgreesInKind t metric i
Keeps tables t metric i rules.Win = (n : ℕ) → Fits tables t metric i (Win n)
Keeps tables t metric i rules.Loss = (n : ℕ) → Fits tables t metric i (Loss n)
Keeps tables t metric i rules.Draw = Fits tables t metric i Draw
Keeps tables t metric i rules.Reach = Unit {0}
Keeps tables t metric i rules.Dead = Unit {0}

-- where the entry of the column of the nearest mates shows this number, the number fits the position that the code spells
abbrev pub FitsReach : Tables → TableValue → ℕ → Option ℕ → Type 0
FitsReach tables t i number = ShowsReach (reach_at t i) number → (p : Setup) → Spells t.class i p → FitsReachBeside (ShowsReachOf tables) p number

-- the entry of the column of the nearest mates at the index keeps the rule
abbrev pub KeepsReach : Tables → TableValue → ℕ → Rule → Type 0
KeepsReach tables t i rules.Void = (reach_at t i ≡ 0) ↔ IsVoid t.class i
KeepsReach tables t i rules.Range = reach_at t i ≤ 32002
KeepsReach tables t i rules.Kind = Unit {0}
KeepsReach tables t i rules.Win = Unit {0}
KeepsReach tables t i rules.Loss = Unit {0}
KeepsReach tables t i rules.Draw = Unit {0}
KeepsReach tables t i rules.Reach = (n : ℕ) → FitsReach tables t i (Some n)
KeepsReach tables t i rules.Dead = FitsReach tables t i None

-- the column's entry at the index keeps the rule
abbrev pub KeepsIn : Tables → TableValue → Column → ℕ → Rule → Type 0
KeepsIn tables t columns.Mate i rule = Keeps tables t Mate i rule
KeepsIn tables t columns.Zeroing i rule = Keeps tables t Zeroing i rule
KeepsIn tables t columns.Reach i rule = KeepsReach tables t i rule

-- the order of the rules
abbrev pub rule_place : Rule → ℕ
rule_place rules.Void = 0
rule_place rules.Range = 1
rule_place rules.Kind = 2
rule_place rules.Win = 3
rule_place rules.Loss = 4
rule_place rules.Draw = 5
rule_place rules.Reach = 6
rule_place rules.Dead = 7

-- the first rule that is broken, of those that are kept so
pub record IsFirstBroken (Kept : Rule → Type 0) (rule : Rule) : Type 0 where
  pub broken : ¬ Kept rule
  pub kept : (other : Rule) → rule_place other < rule_place rule → Kept other

-- all rules are kept, or this one is broken first
abbrev pub IsJudgedBy : (Rule → Type 0) → Option Rule → Type 0
IsJudgedBy Kept None = (rule : Rule) → Kept rule
IsJudgedBy Kept (Some rule) = IsFirstBroken Kept rule

-- the first rule that the entry breaks
abbrev pub Breaks : Tables → TableValue → Metric → ℕ → Rule → Type 0
Breaks tables t metric i = IsFirstBroken (Keeps tables t metric i)

-- the entry keeps all rules, or breaks this one first
abbrev pub IsJudged : Tables → TableValue → Metric → ℕ → Option Rule → Type 0
IsJudged tables t metric i = IsJudgedBy (Keeps tables t metric i)

-- all entries of the column below n keep the rules
abbrev pub KeepsBelow : Tables → TableValue → Metric → ℕ → Type 0
KeepsBelow tables t metric n = (i : ℕ) → i < n → (rule : Rule) → Keeps tables t metric i rule

-- all entries of the column of the nearest mates below n keep the rules
abbrev pub KeepsReachBelow : Tables → TableValue → ℕ → Type 0
KeepsReachBelow tables t n = (i : ℕ) → i < n → (rule : Rule) → KeepsReach tables t i rule

-- all entries of the column, whichever it is, below n keep the rules
abbrev pub KeepsInBelow : Tables → TableValue → Column → ℕ → Type 0
KeepsInBelow tables t column n = (i : ℕ) → i < n → (rule : Rule) → KeepsIn tables t column i rule

-- all entries of the table keep the rules
pub record KeepsRules (tables : Tables) (t : TableValue) : Type 0 where
  pub values : (metric : Metric) → KeepsBelow tables t metric (size_of t.class)
  pub reach : IsSome t.reach → KeepsReachBelow tables t (size_of t.class)
