use Rattle.std.proofs.Common.{◌<◌, ℕ, List, slice_index, ap, subst, sym}
use Rattle.egt_check.specs.Prelude.{IsVoidOrNear, reach_at}
use Rattle.egt_check.proofs.NearBytes.{has_near_bytes}
use Rattle.egt_check.proofs.bytes.tells_reach_bytes.Goals as goal

pub returns : goal.returns
returns c = λ told.
    let t = c.args.table.now in
    let mate = c.entries.result.now in
    has_near_bytes t c.requires.voids
    (λ i below. subst (λ m. IsVoidOrNear m (reach_at t i)) (ap (λ (l : List ℕ). slice_index l i) c.entries.ensures.entries)
    (subst (λ r. IsVoidOrNear (slice_index mate i) r) (ap (λ (l : List ℕ). slice_index l i) c.entries-2.ensures.entries)
    (c.column_is_near.ensures told i (subst (λ n. i < n) (sym c.entries.ensures.size) below))))
