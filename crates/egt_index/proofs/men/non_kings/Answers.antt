use Rattle.std.proofs.Common.{◌≡◌, true, subst, ap, ◌∙◌, arith, slice_index_or}
use Rattle.egt_index.specs.Prelude.{material_of, men_beside, tells_colours, NON_KINGS}
use Rattle.egt_index.proofs.Flipped.{first_tells}
use Rattle.egt_index.proofs.MenTable.{row_is, no_king, from_first}
use Rattle.egt_index.proofs.men.non_kings.Goals as goal

pub returns-clause-men : goal.returns-clause-men
returns-clause-men c = row_is c.from.result _ (omega (arith, c.number.ensures.below, c.from.ensures)) ∙ ap (λ n. men_beside (material_of n)) (c.from.ensures ∙ c.number.ensures.value)

pub returns-clause-first : goal.returns-clause-first
returns-clause-first c = (no_king c.from.result _ (omega (arith, c.number.ensures.below, c.from.ensures))).0

pub returns-clause-second : goal.returns-clause-second
returns-clause-second c = (no_king c.from.result _ (omega (arith, c.number.ensures.below, c.from.ensures))).1

pub returns-clause-colours : goal.returns-clause-colours
returns-clause-colours c =
    subst (λ n. tells_colours n (slice_index_or NON_KINGS c.from.result _).0 ≡ true) (c.from.ensures ∙ c.number.ensures.value)
    (first_tells c.from.result _ (omega (arith, c.number.ensures.below, c.from.ensures)))

pub returns-clause-from_first : goal.returns-clause-from_first
returns-clause-from_first c = from_first c.from.result _ (omega (arith, c.number.ensures.below, c.from.ensures))
