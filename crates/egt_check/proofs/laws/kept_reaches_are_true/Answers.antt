use Rattle.egt_check.proofs.BelowTrue.{reaches_below}
use Rattle.egt_check.proofs.laws.kept_reaches_are_true.Goals as goal

pub returns : goal.returns
returns c = λ tables t sized here children down has keeps. (c.columns_are_kept_over_true_ones.ensures.reach tables t sized here (reaches_below tables t.class children (down has))).0 keeps
