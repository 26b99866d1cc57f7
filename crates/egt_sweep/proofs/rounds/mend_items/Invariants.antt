use Rattle.std.specs.Prelude.{◌≡◌, ◌*◌, ◌≤◌, length}
use Rattle.egt_sweep.specs.FillPrelude.{AreBothKept, IsMendedAt, IsUnderWay}
use Rattle.egt_sweep.proofs.rounds.mend_items.Given as goal

abbrev pub invariant-loop-round : goal.invariant-loop-round
invariant-loop-round l = IsMendedAt l.f.part (λ i. Unit {0}) l.fn.table l.table × IsUnderWay l.f l.table l.items l.marks × AreBothKept l.f l.table l.kept × (length l.items ≡ length l.fn.items) × (l.taken ≤ l._round * length l.fn.items)
