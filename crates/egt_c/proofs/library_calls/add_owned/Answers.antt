use Rattle.std.proofs.Common.{subst}
use Rattle.egt_c.specs.Prelude.{Adds, Places}
use Rattle.egt_c.proofs.library_calls.add_owned.Goals as goal

pub returns-in-Some : goal.returns-in-Some
returns-in-Some c = subst (λ (before : Places). Adds c.args.class_number c.args.bytes.now c.add_numbered.result before c.add_numbered.new.library) c.in-Some.ensures.value c.add_numbered.ensures
