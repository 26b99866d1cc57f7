-- The verdict of comparing an entry with the one that is due.
use Rattle.std.specs.Prelude.{◌≡◌, ◌≢◌, ℕ, Option, Some, None}
use Rattle.egt_entries.specs.Prelude.{Value, Metric, Mate, Zeroing, Outcome, Rule, value_of}
use Rattle.egt_moves.specs.Prelude.{SameKind}
use Rattle.egt_entries.specs.Entry.{Shows}
use Rattle.egt_entries.specs.declared.outcome.Outcome.TheVariants as outcomes
use Rattle.egt_entries.specs.declared.rule.Rule.TheVariants as rules

-- the rule for entries that show this
abbrev pub rule_of : Outcome → Rule
rule_of (outcomes.Win n) = rules.Win
rule_of (outcomes.Loss n) = rules.Loss
rule_of outcomes.Draw = rules.Draw

-- the mate entry shows nothing, or a win, a loss or a draw as the other does
abbrev pub IsOfKind : Option Outcome → Outcome → Type 0
IsOfKind (Some mate) outcome = SameKind (value_of mate) (value_of outcome)
IsOfKind None outcome = Unit {0}

-- the entries of both columns show values of one kind; nothing is asked in the mate column
abbrev pub Agree : Metric → (mate x : ℕ) → Type 0
Agree Mate mate x = Unit {0}
Agree Zeroing mate x = (v w : Value) → Shows mate v → Shows x w → SameKind v w

-- all but draws in the zeroing column are to be the entry that is due
abbrev pub IsCompared : Metric → Outcome → Type 0
IsCompared Mate outcome = Unit {0}
IsCompared Zeroing (outcomes.Win n) = Unit {0}
IsCompared Zeroing (outcomes.Loss n) = Unit {0}
IsCompared Zeroing outcomes.Draw = ⊥

-- the entry agrees with the mate entry, and is not the one that is due
pub record IsWrong (metric : Metric) (mate x due : ℕ) (outcome : Outcome) : Type 0 where
  pub shows : Shows x (value_of outcome)
  pub agrees : Agree metric mate x
  pub compared : IsCompared metric outcome
  pub other : x ≢ due

-- the entry agrees with the mate entry, and is the one that is due
pub record IsRight (metric : Metric) (mate x due : ℕ) : Type 0 where
  pub outcome : Outcome
  pub shows : Shows x (value_of outcome)
  pub agrees : Agree metric mate x
  pub is : IsCompared metric outcome → x ≡ due

-- the entry shows something of another kind than the mate entry does
pub record Disagrees (metric : Metric) (mate x : ℕ) : Type 0 where
  pub outcome : Outcome
  pub shows : Shows x (value_of outcome)
  pub differs : ¬ Agree metric mate x

-- the first rule that the entry x of a position breaks, beside its mate entry and the entry that is due
abbrev pub Finds : Metric → (mate x due : ℕ) → Option Rule → Type 0
Finds metric mate x due None = IsRight metric mate x due
Finds metric mate x due (Some rules.Void) = x ≡ 0
Finds metric mate x due (Some rules.Range) = (x ≢ 0) × ((v : Value) → ¬ Shows x v)
Finds metric mate x due (Some rules.Kind) = Disagrees metric mate x
Finds metric mate x due (Some rules.Win) = (n : ℕ) × IsWrong metric mate x due (outcomes.Win n)
Finds metric mate x due (Some rules.Loss) = (n : ℕ) × IsWrong metric mate x due (outcomes.Loss n)
Finds metric mate x due (Some rules.Draw) = IsWrong metric mate x due outcomes.Draw
Finds metric mate x due (Some rules.Reach) = ⊥
Finds metric mate x due (Some rules.Dead) = ⊥

-- where no position has the index, an entry other than 0 breaks the first rule
abbrev pub FindsVoid : ℕ → Option Rule → Type 0
FindsVoid x None = x ≡ 0
FindsVoid x (Some rules.Void) = x ≢ 0
FindsVoid x (Some _) = ⊥
