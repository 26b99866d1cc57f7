use Rattle.std.proofs.Common.{ap, ◌∙◌, arith}
use Rattle.egt_index.specs.Prelude.{material_of, has_pawns}
use Rattle.egt_index.proofs.MenTable.{pawns_are}
use Rattle.egt_index.proofs.men.has_pawns.Goals as goal

pub returns : goal.returns
returns c = pawns_are c.from.result _ (omega (arith, c.number.ensures.below, c.from.ensures)) ∙ ap (λ n. has_pawns (material_of n)) (c.from.ensures ∙ c.number.ensures.value)
