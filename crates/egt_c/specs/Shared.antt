-- A library with several owners.
use base.Stored.{Coded}
use denote.RattleType.{RattleType}
use Rattle.std.specs.contracts.alloc.Global as heap
use Rattle.std.specs.contracts.impls.GlobalAllocator.TheImpl.{ghosts}
use Rattle.std.specs.contracts.sync.Arc as arc
use Rattle.egt_check.specs.contracts.library.Library as library

abbrev pub shared_row : RattleType
shared_row = arc.the_row library.the_row heap.the_row ghosts

abbrev pub Shared : Type 0
Shared = shared_row.Denot

abbrev pub shared_coded : Coded Shared
shared_coded = shared_row.coded
