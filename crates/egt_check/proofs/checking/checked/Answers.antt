use Rattle.std.proofs.Common.{refl}
use Rattle.egt_check.proofs.checking.checked.Goals as goal

pub returns-in_ok-reach-clause-exact : goal.returns-in_ok-reach-clause-exact
returns-in_ok-reach-clause-exact c =
    let read = c.in_ok-check_children.ensures.exact.0 refl in
    let values = c.in_ok-values.ensures.exact.0 refl in (
      (λ ok. record {
        children = read.0;
        reach_children = read.1;
        rules = record { values = values; reach = λ there. c.in_ok-reach.ensures.exact.0 refl };
      }),
      (λ accepted. refl),
    )
