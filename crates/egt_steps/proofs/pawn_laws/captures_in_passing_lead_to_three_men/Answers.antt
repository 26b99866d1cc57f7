use Rattle.std.proofs.Common.{arith}
use Rattle.egt_steps.proofs.TakenInPassing.{comes, goes}
use Rattle.egt_steps.proofs.Takings.{Telling}
use Rattle.egt_steps.proofs.pawn_laws.captures_in_passing_lead_to_three_men.Goals as goal

pub returns : goal.returns
returns c = record {
  goes = λ k men first side a b p q m class_in one_other pawn has leads passing. goes c.facts.ensures telling k men first side a b p pawn has q m leads passing;
  comes = λ k men first side a b p class_in one_other pawn has is d flips class q has_left.
      comes c.facts.ensures telling k men first side a b p pawn has is d flips q has_left;
}
  where
    telling : Telling
    telling = grind arith
