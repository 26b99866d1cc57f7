use Rattle.egt_class.specs.Listing.{child_at}
use Rattle.egt_class.proofs.ChildTable.{child_below}
use Rattle.egt_class.proofs.descent.child.Goals as goal

pub at-requires : goal.at-requires
unfolding child_at
at-requires c = child_below c.args.at

pub returns : goal.returns
unfolding child_at
returns c = c.at.ensures
