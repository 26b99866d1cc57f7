use Rattle.egt_class.proofs.OneClass.{same_class, either_flip}
use Rattle.egt_class.proofs.laws.a_position_has_one_class.Goals as goal

pub returns-clause-class : goal.returns-clause-class
returns-clause-class c p n d flipped turned n_in d_in is other = (same_class p n d flipped turned n_in d_in is other).0

pub returns-clause-flip : goal.returns-clause-flip
returns-clause-flip c p n flipped turned n_in is other = (same_class p n n flipped turned n_in n_in is other).1

pub returns-clause-both : goal.returns-clause-both
returns-clause-both c = either_flip
