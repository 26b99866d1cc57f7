use Rattle.egt_class.proofs.ClassTests.{equal_sides, tell_equal_sides}
use Rattle.egt_class.proofs.laws.equal_sides_have_the_same_men.Goals as goal

pub returns : goal.returns
returns c n n_in = (equal_sides n n_in, tell_equal_sides n n_in)
