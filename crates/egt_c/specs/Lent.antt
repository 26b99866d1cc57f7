-- The handle while its owner is borrowed.
use Rattle.std.specs.Prelude.{Option}
use Rattle.std.specs.Borrow.{LendsIf, MutBor, Fml}
use Rattle.egt_c.specs.Shared.{Shared, shared_row}
use Rattle.egt_c.specs.declared.handle.EgtbLibrary.{EgtbLibrary}
use Rattle.egt_c.specs.contracts.handle.EgtbLibrary.{the_row}

abbrev pub with_library : EgtbLibrary → Shared → EgtbLibrary
with_library h l = record h { library = l }

-- the handle ends with the last value of the owner, and as it was where it has none
abbrev pub LendsOwner : MutBor EgtbLibrary → Option (MutBor Shared) → Fml
LendsOwner h r = LendsIf the_row shared_row h r (with_library h.now) h.now
