use Rattle.std.proofs.Common.{ap, ◌∙◌, arith}
use Rattle.egt_index.specs.Prelude.{has_equal_sides}
use Rattle.egt_index.proofs.MenTable.{sides_are}
use Rattle.egt_index.proofs.men.has_equal_sides.Goals as goal

pub returns : goal.returns
returns c = sides_are c.from.result _ (omega (arith, c.number.ensures.below, c.from.ensures)) ∙ ap has_equal_sides (c.from.ensures ∙ c.number.ensures.value)
