use Rattle.std.proofs.Common.{◌≡◌, get_or, subst, arith}
use Rattle.egt_check.specs.Prelude.{near_told}
use Rattle.egt_check.proofs.ToldRows.{near_entries, near_entries_at}
use Rattle.egt_check.proofs.told_rows.near_entries.Goals as goal

pub returns : goal.returns
returns c s s_in =
    let long = c.fits-row.0 in
    subst (λ n. get_or (near_entries n c.args.row) s 0 ≡ near_told (get_or c.args.row s 0)) long (near_entries_at c.args.row s (omega arith) c.fits-row.1)
