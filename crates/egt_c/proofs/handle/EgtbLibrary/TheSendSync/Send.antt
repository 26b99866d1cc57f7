-- A handle may go to another thread, as the library that it owns may.
use Rattle.std.specs.Prelude.{Bool, true, false}
use Rattle.egt_c.specs.Prelude.{Shared, shared_row}
use Rattle.egt_c.specs.contracts.handle.EgtbLibrary.{the_row, the_type}
use mir.Raw.{raw}
use base.Shift.{Keyless}
use denote.Memory.{lone}
use base.Fraction.{full_share}
use denote.Exit.{Exit, unchanged, leaves, hidden, under}
use denote.RattleType.{RattleType}
use denote.RawPtr.{Ptr, block_ptr, null_ptr, lies_at}
use denote.Struct.Struct.{exits_of}
use denote.Struct.Owning.{shape, fields, to}
use denote.Param.Send.{IsSend, AllSend, Quiet, part_keyless, owning_send, struct_send, sendable}
use Rattle.std.proofs.Crossing as heap
use Rattle.egt_check.specs.contracts.library.Library as inside
use Rattle.egt_check.proofs.library.Library.TheSendSync.{the_send as library, the_sync as library_shared}
use Rattle.egt_c.specs.Owned as owned

lies : (R : RattleType) → IsSend R → (p : Ptr) (x : R.Denot) → Keyless (lies_at R full_share p x)
lies R s (block_ptr b o) x = part_keyless R s full_share x b o
lies R s null_ptr x = tt

quiet : {D X : Type 0} (to : D → X) (e : Exit X) → Quiet e → Quiet (hidden (under to e))
quiet to unchanged q = λ x w. tt
quiet to (leaves L l S s r₀) q = λ d. q (to d)

owns_alike : (p : Ptr) (y : Bool) (l : Shared) → Keyless (owned.owned p y l)
owns_alike p false l = tt
owns_alike p true l = (lies shared_row (heap.Arc-send inside.the_row library library_shared) p l, heap.frees.frees owned.heap (raw (lone shared_row.mir)) p)

pub send : IsSend the_row
send =
    let all : AllSend (fields the_type) = (search sendable, (search sendable, tt)) in
    owning_send the_type all (λ d. owns_alike d.at d.is_open d.library) (λ k. quiet (to the_type) (exits_of k (fields the_type)) ((struct_send (shape the_type) all).leaving k))
