use Rattle.std.proofs.Common.{arith}
use Rattle.egt_steps.proofs.QuietStands.{comes, goes}
use Rattle.egt_steps.proofs.QuietSteps.{Following}
use Rattle.egt_steps.proofs.laws.quiet_moves_are_quiet_steps.Goals as goal

pub returns : goal.returns
returns c = record {
  goes = λ k men side targeted a b p q m class_in has leads quiet. goes c.facts.ensures c.moves_lead_into_the_class_or_a_child.ensures.quiet follow k class_in men side targeted a b p has q m leads quiet;
  comes = λ k men side targeted a b p q stand class_in has is there. comes c.facts.ensures c.moves_lead_into_the_class_or_a_child.ensures.quiet follow k class_in men side targeted a b p has q stand is there;
}
  where
    follow : Following
    follow = grind arith
