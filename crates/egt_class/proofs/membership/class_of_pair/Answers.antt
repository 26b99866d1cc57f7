use Rattle.std.specs.Prelude.{refl}
use Rattle.egt_class.specs.Prelude.{class_at, flip_at}
use Rattle.egt_class.proofs.PairTable.{pair_below}
use Rattle.egt_class.proofs.membership.class_of_pair.Goals as goal

pub at-requires : goal.at-requires
unfolding class_at
at-requires c = pair_below c.args.first c.args.second c.requires.first c.requires.second

pub returns-clause-class : goal.returns-clause-class
unfolding class_at
returns-clause-class c = c.at.ensures

pub returns-clause-flip : goal.returns-clause-flip
unfolding flip_at
returns-clause-flip c = refl
