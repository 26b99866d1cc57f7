use Rattle.std.proofs.Common.{rules, arith}
use Rattle.egt_c.specs.Prelude.{NoPosition}
use Rattle.egt_c.proofs.men.position_of.Goals as goal

pub returns-in-Err-clause-fault : goal.returns-in-Err-clause-fault
returns-in-Err-clause-fault c =
    NoPosition c.in-Err.fault c.in-Some.men.items c.in-Some-side_of.side c.in-Some-target_of.target (record {
      few = omega (arith, c.if-given-gt4.false);
      men_named = search rules;
      side_named = search rules;
      target_named = search rules;
    }) (search rules) c.of_setup-in-Err.ensures
