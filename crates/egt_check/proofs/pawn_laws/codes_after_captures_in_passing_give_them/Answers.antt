use Rattle.egt_check.proofs.PawnGiven.{captures_in_passing_given}
use Rattle.egt_check.proofs.GreatestScores.{Turning}
use Rattle.egt_check.proofs.pawn_laws.codes_after_captures_in_passing_give_them.Goals as goal

pub returns : goal.returns
returns c = λ tables k men first side a b p t flips w class_in one_other pawn has is raised.
    captures_in_passing_given c.facts.ensures turning tables k men first side a b p pawn has t flips is
    (λ q m leads passing. c.captures_in_passing_lead_to_three_men.ensures.goes k men first side a b p q m class_in one_other pawn has leads passing)
    (c.captures_in_passing_lead_to_three_men.ensures.comes k men first side a b p class_in one_other pawn has) w raised
  where
    turning : Turning
    turning = record {
      index = c.codes_tell_turned_men.ensures.index;
      there = c.codes_tell_turned_men.ensures.there;
      or_void = c.a_code_is_an_index_or_void.ensures;
    }
