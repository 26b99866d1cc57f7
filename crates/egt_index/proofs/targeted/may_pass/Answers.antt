use Rattle.std.specs.Prelude.{true}
use Rattle.egt_index.specs.Prelude.{material_of}
use Rattle.egt_index.proofs.Decoded.{no_men}
use Rattle.egt_index.proofs.TargetsMade.{passes_nothing}
use Rattle.egt_index.proofs.targeted.may_pass.Goals as goal

pub returns-in-Some : goal.returns-in-Some
returns-in-Some c = λ off. passes_nothing c.args.class c.args.number c.in-Some.stand c.requires c.in-Some.ensures.some (c.is_in_the_middle.ensures off)

pub returns-in-None : goal.returns-in-None
returns-in-None c = λ e n last code side p tells ends spells settled. no_men (material_of c.args.class) code n side true p ends (c.in-None.ensures.none n last tells) spells
