-- The library that a handle owns.
use Rattle.std.specs.Prelude.{Bool, true, false}
use base.Fml.{Fml, ftrue}
use denote.RawPtr.{Ptr}
use Rattle.std.specs.Box.Ownership.{box_owns}
use Rattle.std.specs.declared.alloc.Global.{Global}
use Rattle.std.specs.contracts.impls.GlobalAllocator.TheImpl.{ghosts}
use Rattle.egt_c.specs.Shared.{Shared, shared_row}

-- the C library's heap: it has one value
abbrev pub heap : Global
heap = record { memory = record { seal = tt } }

-- where it is open, the box at its pointer with one owner of the library in it
abbrev pub owned : Ptr → Bool → Shared → Fml
owned p false l = ftrue
owned p true l = box_owns (ghosts.dealloc_token heap) shared_row p l
