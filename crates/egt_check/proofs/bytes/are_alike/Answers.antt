use Rattle.std.proofs.Common.{◌<◌, ℕ, List, ap, subst, sym, slice_index}
use Rattle.egt_check.specs.Prelude.{AreVoidOrAlike, Zeroing, entry_at}
use Rattle.egt_check.proofs.bytes.are_alike.Goals as goal

pub returns : goal.returns
returns c = λ told i below.
    let t = c.args.table.now in
    let mate = c.entries-mate.result.now in
    subst (λ m. AreVoidOrAlike m (entry_at t Zeroing i)) (ap (λ (l : List ℕ). slice_index l i) c.entries-mate.ensures.entries)
    (subst (λ z. AreVoidOrAlike (slice_index mate i) z) (ap (λ (l : List ℕ). slice_index l i) c.entries-zeroing.ensures.entries)
    (c.columns_are_alike.ensures told i (subst (λ n. i < n) (sym c.entries-mate.ensures.size) below)))
