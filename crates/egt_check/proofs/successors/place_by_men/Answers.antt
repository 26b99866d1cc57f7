use Rattle.std.proofs.Common.{◌<◌, subst}
use Rattle.egt_check.proofs.successors.place_by_men.Goals as goal

pub indexed_by_men-class-requires : goal.indexed_by_men-class-requires
indexed_by_men-class-requires c =
    let (q, ok, are, none) = c.requires in
    (q, ok, are.men, are.side, none)

pub returns : goal.returns
returns c = λ q ok are none.
    let is = c.indexed_by_men-class.ensures q ok are.men are.side none in
    record {
      below = subst (λ n. n < 36) c.number-number.ensures.value c.number-number.ensures.below;
      flipped = is.0.0;
      of = is.0.1;
      is_index = is.1;
    }
