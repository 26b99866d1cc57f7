use Rattle.egt_steps.proofs.Still.{quiet_moved}
use Rattle.egt_steps.proofs.laws.a_quiet_move_moves_one_man.Goals as goal

pub returns : goal.returns
returns c = λ class p q m ok leads quiet.
    quiet_moved c.moves_lead_into_the_class_or_a_child.ensures.quiet class p q m ok (c.facts.ensures.step_admissible p q m ok leads) leads quiet
