use Rattle.std.specs.Prelude.{refl}
use Rattle.egt_sweep.specs.Prelude.{settled_form}
use Rattle.egt_sweep.proofs.laws.laws.Goals as goal

pub returns : goal.returns
returns c = record {
  facts = c.facts.ensures;
  settles = λ p. (c.positions_settle_once.ensures.made p (settled_form p)).1 refl;
  settled_once = λ p q settles. (c.positions_settle_once.ensures.made p q).0 settles;
  turns = c.images_are_turns.ensures.told;
  one_spelled = c.codes_spell_one_position.ensures;
  index_or_void = c.a_code_is_an_index_or_void.ensures;
  listed = c.moves_are_listed.ensures.legal;
  played = c.moves_lead_to_one.ensures.played;
  indexed_class = c.an_indexed_position_is_of_the_class.ensures;
  plays_alike = c.a_position_plays_as_its_index_spells.ensures;
  quiet_class = c.moves_lead_into_the_class_or_a_child.ensures.quiet;
  images_settled = c.images_keep_men.ensures.settled;
  settled = c.positions_settle_once.ensures.settled;
  like_unmoves = c.images_have_like_unmoves.ensures.images;
  same_image = c.images_form_classes.ensures.same;
  other_class = c.moves_lead_into_the_class_or_a_child.ensures.other;
}
