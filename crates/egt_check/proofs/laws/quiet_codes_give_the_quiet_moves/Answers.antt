use Rattle.egt_check.specs.Prelude.{other_side, IsQuietStand}
use Rattle.egt_check.proofs.QuietGiven.{quiet_given, quiet_whole}
use Rattle.egt_check.proofs.GreatestScores.{Turning}
use Rattle.egt_check.proofs.laws.quiet_codes_give_the_quiet_moves.Goals as goal

pub returns : goal.returns
returns c = λ tables t men side targeted a b p mate zeroing is_table found bytes has by_mate by_zeroing.
    quiet_given c.facts.ensures turning tables t is_table found bytes (other_side side) p (IsQuietStand men side a b) (quiet_whole men side a b p has.stood.all)
    (λ q m. c.quiet_moves_are_quiet_steps.ensures.goes t.class men side targeted a b p q m is_table.class_in has)
    (λ q stand. c.quiet_moves_are_quiet_steps.ensures.comes t.class men side targeted a b p q stand is_table.class_in has) mate zeroing by_mate by_zeroing
  where
    turning : Turning
    turning = record {
      index = c.codes_tell_turned_men.ensures.index;
      there = c.codes_tell_turned_men.ensures.there;
      or_void = c.a_code_is_an_index_or_void.ensures;
    }
