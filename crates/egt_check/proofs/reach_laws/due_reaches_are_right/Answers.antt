use Rattle.egt_check.proofs.NearJudged.{due_kept, end_kept}
use Rattle.egt_check.proofs.reach_laws.due_reaches_are_right.Goals as goal

pub returns : goal.returns
returns c = record {
  due = λ tables t i p g z spells index some low given some_move due. due_kept tables t i p spells (λ q other. c.codes_spell_one_position.ensures t.class i q p other spells) index c.facts.ensures g z given some_move some low due;
  end = λ tables t i p x spells index stuck end is. end_kept tables t i p spells (λ q other. c.codes_spell_one_position.ensures t.class i q p other spells) index x stuck end is;
}
