use Rattle.std.specs.Prelude.{refl}
use Rattle.egt_c.specs.Prelude.{Unloaded, Told}
use Rattle.egt_c.proofs.position_calls.tell_verdict.Goals as goal

pub returns-in-Ok-verdict : goal.returns-in-Ok-verdict
returns-in-Ok-verdict c = rw c.in-Ok.is (Told c.in-Ok-verdict.told c.in-Ok-verdict.ensures.verdict c.none.ensures c.of.ensures)

pub returns-in-Err-verdict : goal.returns-in-Err-verdict
returns-in-Err-verdict c =
    rw c.in-Ok.is (Unloaded c.in-Err-verdict.missing.class c.in-Err-verdict.ensures.missing c.missing.ensures refl)
