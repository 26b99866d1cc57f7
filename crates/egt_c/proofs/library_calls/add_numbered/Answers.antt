use Rattle.std.proofs.Common.{ℕ, subst}
use Rattle.egt_c.specs.Prelude.{Adds}
use Rattle.egt_c.proofs.library_calls.add_numbered.Goals as goal

pub returns-in-Some : goal.returns-in-Some
returns-in-Some c =
    subst (λ (class : ℕ). Adds class c.args.bytes.now c.add_class.result c.args.library.now c.add_class.new.library) c.in-Some.ensures.value c.add_class.ensures
