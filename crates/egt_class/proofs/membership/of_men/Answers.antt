use Rattle.egt_class.proofs.PairTable.{pair_is_of, pair_unflipped}
use Rattle.egt_class.proofs.membership.of_men.Goals as goal

pub returns-clause-class : goal.returns-clause-class
returns-clause-class c p is =
    rw (c.class_of_pair.ensures.class, c.class_of_pair.ensures.flip, c.slot.ensures.value, c.slot-2.ensures.value) (pair_is_of p c.args.one c.args.other is)

pub returns-clause-unflipped : goal.returns-clause-unflipped
returns-clause-unflipped c =
    rw (c.class_of_pair.ensures.class, c.class_of_pair.ensures.flip) (pair_unflipped c.slot.result c.slot-2.result c.slot.ensures.below c.slot-2.ensures.below)
