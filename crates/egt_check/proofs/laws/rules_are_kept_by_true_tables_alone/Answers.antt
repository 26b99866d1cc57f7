use Rattle.egt_check.proofs.BelowTrue.{reaches_below, values_below}
use Rattle.egt_check.proofs.laws.rules_are_kept_by_true_tables_alone.Goals as goal

pub returns : goal.returns
returns c = λ tables t sized here children down.
    c.columns_are_kept_over_true_ones.ensures.table tables t sized here (values_below tables t.class children) (λ has. reaches_below tables t.class children (down has))
