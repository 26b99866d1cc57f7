use Rattle.egt_check.proofs.PawnGiven.{promoting_captures_given}
use Rattle.egt_check.proofs.GreatestScores.{Turning}
use Rattle.egt_check.proofs.pawn_laws.codes_after_promoting_captures_give_them.Goals as goal

pub returns : goal.returns
returns c = λ tables k men first side targeted a b p kind t flips w class_in one_other pawn has is raised.
    promoting_captures_given c.facts.ensures turning tables k men first side targeted a b p pawn has kind t flips is
    (λ q m. λ leads from_is held promo_is. c.promoting_captures_lead_to_three_men.ensures.goes k men first side targeted a b p q m kind class_in one_other pawn has leads from_is held promo_is)
    (c.promoting_captures_lead_to_three_men.ensures.comes k men first side targeted a b p kind class_in one_other pawn has) w raised
  where
    turning : Turning
    turning = record {
      index = c.codes_tell_turned_men.ensures.index;
      there = c.codes_tell_turned_men.ensures.there;
      or_void = c.a_code_is_an_index_or_void.ensures;
    }
