use Rattle.egt_check.proofs.TakenGiven.{taken_given}
use Rattle.egt_check.proofs.GreatestScores.{Turning}
use Rattle.egt_check.proofs.laws.codes_after_captures_give_the_captures.Goals as goal

pub returns : goal.returns
returns c = λ tables k men side targeted a b p first last first_flips last_flips u v class_in one_king last_king has is_first is_last by_first by_last.
    taken_given c.facts.ensures turning tables k men side targeted a b p has
    (record {
      goes = λ q m. c.captures_lead_to_three_men.ensures.goes k men side targeted a b p q m class_in one_king last_king has;
      comes = c.captures_lead_to_three_men.ensures.comes k men side targeted a b p class_in one_king last_king has;
    })
    first first_flips is_first last last_flips is_last u v by_first by_last
  where
    turning : Turning
    turning = record {
      index = c.codes_tell_turned_men.ensures.index;
      there = c.codes_tell_turned_men.ensures.there;
      or_void = c.a_code_is_an_index_or_void.ensures;
    }
