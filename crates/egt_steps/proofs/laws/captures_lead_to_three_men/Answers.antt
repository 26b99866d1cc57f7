use Rattle.std.proofs.Common.{arith}
use Rattle.egt_steps.proofs.Takings.{Telling, comes, goes}
use Rattle.egt_steps.proofs.laws.captures_lead_to_three_men.Goals as goal

pub returns : goal.returns
returns c = record {
  goes = λ k men side targeted a b p q m class_in one_other last_other has leads plain. goes c.facts.ensures telling k men one_other last_other side targeted a b p has q m leads plain;
  comes = λ k men side targeted a b p class_in one_other last_other has left is d flips class q there. comes c.facts.ensures telling k men one_other last_other side targeted a b p has left is d flips class q there;
}
  where
    telling : Telling
    telling = grind arith
