use Rattle.egt_check.proofs.BelowTrue.{true_values}
use Rattle.egt_check.proofs.TrueReach.{kept_reach_is_true, true_reach_keeps}
use Rattle.egt_check.proofs.TrueTables.{entry_true, true_keeps, void_true}
use Rattle.egt_check.proofs.laws.columns_are_kept_over_true_ones.Goals as goal

pub returns-clause-values : goal.returns-clause-values
returns-clause-values c = λ tables t sized here children.
    let facts = c.facts.ensures in (
      λ keeps. record { void = void_true facts tables t sized here children keeps; true = entry_true facts tables t sized here children keeps },
      λ truth. true_keeps facts tables t sized here children truth,
    )

pub returns-clause-reach : goal.returns-clause-reach
returns-clause-reach c = λ tables t sized here children.
    let facts = c.facts.ensures in
    (λ keeps. kept_reach_is_true facts tables t sized here children keeps, λ truth. true_reach_keeps facts tables t sized here children truth)

pub returns-clause-table : goal.returns-clause-table
returns-clause-table c = λ tables t sized here children reaches.
    let facts = c.facts.ensures in (
      λ keeps. record {
        void = void_true facts tables t sized here children keeps.values;
        true = entry_true facts tables t sized here children keeps.values;
        reach = λ has. kept_reach_is_true facts tables t sized here (reaches has) (keeps.reach has);
      },
      λ truth. record {
        values = true_keeps facts tables t sized here children (true_values t truth);
        reach = λ has. true_reach_keeps facts tables t sized here (reaches has) (truth.reach has);
      },
    )
