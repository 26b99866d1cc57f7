use Rattle.std.proofs.Common.{◌<◌, ◌∙◌, ap, arith}
use Rattle.egt_class.specs.Prelude.{name_of}
use Rattle.egt_class.proofs.NameTable.{names_are_right, names_are_ascii}
use Rattle.egt_class.proofs.naming.padded.Goals as goal

pub returns : goal.returns
returns c =
    let c_in : c.from.result < 36 = omega (arith, c.number.ensures.below, c.from.ensures) in
    record {
      letters = names_are_right c.from.result c_in ∙ ap name_of (c.from.ensures ∙ c.number.ensures.value);
      ascii = names_are_ascii c.from.result c_in;
    }
