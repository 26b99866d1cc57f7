use Rattle.std.specs.Prelude.{◌≡◌, ℕ, ◌+◌, ◌<◌}
use Rattle.egt_sweep.specs.FillPrelude.{bit_at, Has, code_of, kind_digits, kind_less, number_in, IsRightEndOf, IsLaneOf}
use Rattle.egt_sweep.specs.FillPrelude.{IsMendedAt}
use Rattle.egt_sweep.proofs.mending.see_ends.Given as goal

-- the squares that are no longer left are seen
abbrev pub invariant-loop-square : goal.invariant-loop-square
invariant-loop-square l =
    IsMendedAt l.part (IsLaneOf l.fn.table.class l.shelf l.fn.ends) l.fn.table l.table
    × ((t : ℕ) → Has l.rest t → Has l.fn.ends t)
    × ((digit : ℕ) → digit < kind_digits l.shelf.men.last.kind → Has l.fn.ends (digit + kind_less l.shelf.men.last.kind) → bit_at l.rest.bits (digit + kind_less l.shelf.men.last.kind) ≡ 0 →
    IsRightEndOf l.part l.table (code_of l.fn.table.class (number_in l.fn.table.class l.shelf.number l.shelf.side digit)))

abbrev pub decreases-loop-square : goal.decreases-loop-square
decreases-loop-square l = l.rest.bits
