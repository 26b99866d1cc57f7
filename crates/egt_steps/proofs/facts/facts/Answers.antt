use Rattle.std.proofs.Common.{refl, not, false, ⊎_elim}
use Rattle.egt_steps.specs.Prelude.{settled_form}
use Rattle.egt_steps.proofs.facts.facts.Goals as goal

pub returns : goal.returns
returns c = record {
  images_back = c.images_form_classes.ensures.back;
  image_admissible = c.images_keep_men.ensures.admissible;
  settles = λ p. (settled_form p, (c.positions_settle_once.ensures.made p (settled_form p)).1 refl);
  settled_admissible = c.positions_settle_once.ensures.admissible;
  images_settle = c.images_settle_alike.ensures.images;
  step_admissible = c.moves_lead_to_one.ensures.admissible;
  image_steps = c.images_keep_steps.ensures.images;
  image_checkmate = c.images_keep_steps.ensures.checkmate;
  settled_steps = c.settling_keeps_steps.ensures.leads;
  settled_zeroes = c.settling_keeps_steps.ensures.zeroes;
  settled_checkmate = c.settling_keeps_steps.ensures.checkmate;
  classes = c.every_position_has_a_class.ensures;
  one_class = c.a_position_has_one_class.ensures.class;
  settled_class = c.settling_keeps_the_class.ensures;
  image_class = λ p q k flipped ok images of. ⊎_elim (λ kept. (flipped, kept.0)) (λ exchanged. (not flipped, exchanged.0)) (c.images_keep_the_class.ensures p q k flipped ok images of);
  step_class = λ p q m k flipped k_in ok of leads. c.moves_lead_into_the_class_or_a_child.ensures.any p q m k flipped k_in ok of leads;
  child_below = c.children_have_smaller_numbers.ensures.smaller;
  spelled_class = λ k code p spells. (false, c.spelled_positions_are_of_the_class.ensures k code p spells);
  some_index = c.every_position_has_one_index.ensures.some;
  one_index = c.every_position_has_one_index.ensures.one;
  index_below = c.every_position_has_one_index.ensures.below;
  like_index = c.one_index_for_all_images.ensures;
  index_spells = c.an_index_spells_a_position_of_it.ensures;
  values_by_rules = c.entries_are_true.ensures.values;
  distances_by_rules = c.entries_are_true.ensures.distances;
  rules_by_values = c.true_entries_fit.ensures.values;
  rules_by_distances = c.true_entries_fit.ensures.distances;
  reach_by_rules = c.reach_entries_are_true.ensures.are_true;
  rules_by_reach = c.reach_entries_are_true.ensures.fit;
}
