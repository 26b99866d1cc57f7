use Rattle.std.proofs.Common.{refl, sym, ◌∙◌}
use Rattle.egt_board.specs.Prelude.{settled_form, turned_by}
use Rattle.egt_index.proofs.facts.facts.Goals as goal

pub returns : goal.returns
returns c = record {
  turns = λ p q ok. (c.images_are_turns.ensures.by_number p q ok).0;
  images = λ p q n flipped ok n_in keeps turned. (c.images_are_turns.ensures.by_number p q ok).1 (n, flipped, n_in, keeps, turned);
  made = λ n flipped p ok. (turned_by n flipped p, (c.turns_make_one.ensures.made n flipped p (turned_by n flipped p) ok).1 refl);
  set = λ n flipped p q ok turned. (c.turns_make_one.ensures.set n flipped p q ok).0 turned;
  once = c.turns_make_one.ensures.one;
  same = c.images_form_classes.ensures.same;
  back = c.images_form_classes.ensures.back;
  on = c.images_form_classes.ensures.on;
  admissible = c.images_keep_men.ensures.admissible;
  settled = c.images_keep_men.ensures.settled;
  men = c.images_keep_men.ensures.men;
  settles = λ p. (settled_form p, (c.positions_settle_once.ensures.made p (settled_form p)).1 refl);
  settles_once = λ p q r here there. (c.positions_settle_once.ensures.made p q).0 here ∙ sym ((c.positions_settle_once.ensures.made p r).0 there);
  settled_admissible = c.positions_settle_once.ensures.admissible;
  is_settled = c.positions_settle_once.ensures.settled;
  settled_men = c.positions_settle_once.ensures.men;
  classes = c.every_position_has_a_class.ensures;
  one_class = c.a_position_has_one_class.ensures.class;
  one_flip = c.a_position_has_one_class.ensures.flip;
  both_flips = c.a_position_has_one_class.ensures.both;
}
