use Rattle.std.proofs.Common.{◌<◌, subst}
use Rattle.egt_check.proofs.successors.place_of.Goals as goal

pub returns : goal.returns
returns c = record {
  below = subst (λ n. n < 36) c.number-number.ensures.value c.number-number.ensures.below;
  flipped = c.of-class.result.1;
  of = c.of-class.ensures.class;
  is_index = c.index.ensures;
}
