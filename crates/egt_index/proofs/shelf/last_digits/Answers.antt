use Rattle.std.proofs.Common.{arith, sym, ◌∙◌}
use Rattle.egt_index.specs.Prelude.{material_of, men_beside}
use Rattle.egt_index.proofs.Prefixes.{last_beside}
use Rattle.egt_index.proofs.NumbersOfCodes.{places_of_last, places_of_none, whole_numbers}
use Rattle.egt_index.proofs.shelf.last_digits.Goals as goal

pub returns-in-Some-clause-is : goal.returns-in-Some-clause-is
returns-in-Some-clause-is c = grind (arith, places_of_last, last_beside, men_beside, material_of, c.digits_of.ensures.is, c.non_kings.ensures.men, c.non_kings.ensures.from_first, c.in-Some.is)

pub returns-in-None-clause-is : goal.returns-in-None-clause-is
returns-in-None-clause-is c = sym (places_of_none c.args.class (last_beside _ _ (men_beside (material_of c.args.class)) c.non_kings.ensures.men c.non_kings.ensures.from_first ∙ c.in-None.is))

pub returns-in-Some-clause-whole : goal.returns-in-Some-clause-whole
returns-in-Some-clause-whole c = whole_numbers c.args.class (omega (arith, c.number-number.ensures.below, c.number-number.ensures.value))

pub returns-in-None-clause-whole : goal.returns-in-None-clause-whole
returns-in-None-clause-whole c = whole_numbers c.args.class (omega (arith, c.number-number.ensures.below, c.number-number.ensures.value))
