use Rattle.std.proofs.Common.{ap, ◌∙◌}
use Rattle.egt_index.specs.Prelude.{material_of, has_target}
use Rattle.egt_index.proofs.MenTable.{targets_are}
use Rattle.egt_index.proofs.men.has_target.Goals as goal

pub returns : goal.returns
returns c = targets_are c.number.result c.number.ensures.below ∙ ap (λ n. has_target (material_of n)) c.number.ensures.value
