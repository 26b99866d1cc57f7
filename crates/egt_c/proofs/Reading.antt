-- A source over memory counts no failure, so no fault of reading it is one of the device.
use Rattle.std.proofs.Common.{◌≡◌, ◌≢◌, subst, arith}
use Rattle.egt_c.specs.Prelude.{CountsFault, FileFault, Device}

pub memory_never_fails : (fault : FileFault) → CountsFault fault 0 0 → fault ≢ Device
memory_never_fails fault counted is = let wrong : 0 ≡ 1 = subst (λ (f : FileFault). CountsFault f 0 0) is counted in omega (arith, wrong)
