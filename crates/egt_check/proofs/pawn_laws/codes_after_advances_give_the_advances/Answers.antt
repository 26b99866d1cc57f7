use Rattle.egt_check.proofs.PawnGiven.{advances_given}
use Rattle.egt_check.proofs.GreatestScores.{Turning}
use Rattle.egt_check.proofs.pawn_laws.codes_after_advances_give_the_advances.Goals as goal

pub returns : goal.returns
returns c = λ tables k men first side targeted a b p promo t before flips w class_in one_other bare pawn has is raised.
    advances_given c.facts.ensures turning tables k men first side targeted a b p pawn has promo t before flips is
    (λ q m. c.advances_lead_to_the_men_after.ensures.goes k men first side targeted a b p q m class_in one_other pawn has)
    (c.advances_lead_to_the_men_after.ensures.comes k men first side targeted a b p class_in one_other pawn has promo) bare w raised
  where
    turning : Turning
    turning = record {
      index = c.codes_tell_turned_men.ensures.index;
      there = c.codes_tell_turned_men.ensures.there;
      or_void = c.a_code_is_an_index_or_void.ensures;
    }
