use Rattle.std.specs.Prelude.{◌≡◌, ℕ, ◌<◌, true}
use Rattle.egt_sweep.specs.FillPrelude.{IsDueRow, IsMendedAt}
use Rattle.egt_sweep.specs.declared.mending.Mended.TheVariants as mends
use Rattle.egt_sweep.proofs.lone_rounds.look_at_rows.Given as goal

-- where nothing was put the table is as it was, and the rows so far are due
abbrev pub invariant-loop-row : goal.invariant-loop-row
invariant-loop-row l =
    IsMendedAt l.f.part (λ i. Unit {0}) l.fn.table l.table
    × (l.found ≡ mends.Due → l.table ≡ l.fn.table)
    × (l.found ≡ mends.Due → l.all ≡ true → (r : ℕ) → r < l.row → IsDueRow l.f l.table r)
