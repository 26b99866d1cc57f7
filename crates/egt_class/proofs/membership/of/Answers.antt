use Rattle.egt_class.proofs.membership.of.Goals as goal

pub returns-clause-class : goal.returns-clause-class
returns-clause-class c = c.of_men.ensures.class c.args.position.now c.non_kings-first.ensures
