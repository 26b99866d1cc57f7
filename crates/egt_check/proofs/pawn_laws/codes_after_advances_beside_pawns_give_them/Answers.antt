use Rattle.std.proofs.Common.{None}
use Rattle.egt_check.proofs.PawnGiven.{advances_beside_given}
use Rattle.egt_check.proofs.GreatestScores.{Turning}
use Rattle.egt_check.proofs.pawn_laws.codes_after_advances_beside_pawns_give_them.Goals as goal

pub returns : goal.returns
returns c = λ tables k men first side targeted a b p t u v class_in one_other pawn has is steps leaps.
    advances_beside_given c.facts.ensures turning tables k men first side targeted a b p pawn has c.numbers_stand_for_codes.ensures.indexes_are_settled t first is
    (λ q m. c.advances_lead_to_the_men_after.ensures.goes k men first side targeted a b p q m class_in one_other pawn has)
    (c.advances_lead_to_the_men_after.ensures.comes k men first side targeted a b p class_in one_other pawn has None) u v steps leaps
  where
    turning : Turning
    turning = record {
      index = c.codes_tell_turned_men.ensures.index;
      there = c.codes_tell_turned_men.ensures.there;
      or_void = c.a_code_is_an_index_or_void.ensures;
    }
