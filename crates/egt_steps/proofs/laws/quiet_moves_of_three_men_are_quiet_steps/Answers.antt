use Rattle.std.proofs.Common.{arith}
use Rattle.egt_steps.proofs.QuietAlone.{comes, goes, none_zeroes}
use Rattle.egt_steps.proofs.QuietSteps.{Following}
use Rattle.egt_steps.proofs.laws.quiet_moves_of_three_men_are_quiet_steps.Goals as goal

pub returns : goal.returns
returns c = record {
  goes = λ k men side targeted s p q m class_in has leads quiet. goes c.facts.ensures c.moves_lead_into_the_class_or_a_child.ensures.quiet follow k class_in men side targeted s p has q m leads quiet;
  comes = λ k men side targeted s p q stand class_in has is there. comes c.facts.ensures c.moves_lead_into_the_class_or_a_child.ensures.quiet follow k class_in men side targeted s p has q stand is there;
  quiet = λ k men side targeted s p q m class_in has none leads. none_zeroes c.facts.ensures c.moves_lead_into_the_class_or_a_child.ensures.quiet follow k class_in men side targeted s p has q m leads none;
}
  where
    follow : Following
    follow = grind arith
