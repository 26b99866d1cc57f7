use Rattle.egt_check.proofs.ByteJudged.{due_judged, end_judged, none_given}
use Rattle.egt_check.proofs.laws.due_bytes_are_right.Goals as goal

pub returns : goal.returns
returns c = record {
  due = λ tables t i p g z spells index alike given some mate zeroing. due_judged c.facts.ensures tables t i p spells (λ q other. c.codes_spell_one_position.ensures t.class i q p other spells) index alike g z given some mate zeroing;
  none = λ tables p g z ok given none. none_given c.facts.ensures tables p ok g z given none;
  end = λ tables t i p x spells index alike stuck end mate zeroing. end_judged c.facts.ensures tables t i p spells (λ q other. c.codes_spell_one_position.ensures t.class i q p other spells) index alike stuck x end mate zeroing;
}
