use Rattle.std.proofs.Common.{List, ℕ, refl, sym, subst, ◌∙◌}
use Rattle.egt_c.specs.Prelude.{IsAnswer, NotRead, TurnedAway, Added}
use Rattle.egt_c.proofs.Reading.{memory_never_fails}
use Rattle.egt_c.proofs.library_calls.add_class.Goals as goal

pub returns-in-Err : goal.returns-in-Err
returns-in-Err c = NotRead c.in-Err.fault (memory_never_fails c.in-Err.fault c.in-Err.ensures.failures) (subst (λ (bytes : List ℕ). IsAnswer c.args.class bytes c.in-Err.fault) c.new.ensures c.in-Err.ensures.reads) c.of_file.ensures refl

pub returns-in-Ok-admit : goal.returns-in-Ok-admit
returns-in-Ok-admit c =
    let taken = c.in-Ok-admit.ensures.exact.0 refl in
    Added c.in-Ok.table c.in-Ok.ensures.class (sym c.new.ensures ∙ c.in-Ok.ensures.reads.1) taken.0 taken.1 c.none.ensures (c.in-Ok-admit.ensures.shelved refl)

pub returns-in-Err-admit : goal.returns-in-Err-admit
returns-in-Err-admit c = TurnedAway c.in-Ok.table c.in-Err-admit.reject c.in-Ok.ensures.class (sym c.new.ensures ∙ c.in-Ok.ensures.reads.1) c.in-Err-admit.ensures.reason c.of_check.ensures c.in-Err-admit.ensures.same
