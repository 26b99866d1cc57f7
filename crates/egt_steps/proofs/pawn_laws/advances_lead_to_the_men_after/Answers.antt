use Rattle.egt_steps.proofs.PawnAdvances.{comes, goes}
use Rattle.egt_steps.proofs.pawn_laws.advances_lead_to_the_men_after.Goals as goal

pub returns : goal.returns
returns c = record {
  goes = λ k men first side targeted a b p q m class_in one_other pawn has leads from_is quiet.
      goes c.facts.ensures c.men_beside_are_counted.ensures k men first side targeted a b p one_other pawn has q m leads from_is quiet;
  comes = λ k men first side targeted a b p class_in one_other pawn has promo t is d before flips class left told r has_after.
      comes c.facts.ensures c.men_beside_are_counted.ensures k men first side targeted a b p one_other pawn has promo t is d before flips left told r has_after;
}
