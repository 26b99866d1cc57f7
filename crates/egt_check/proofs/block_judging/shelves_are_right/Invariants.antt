use Rattle.std.specs.Prelude.{ℕ, ◌+◌, ◌<◌}
use Rattle.egt_check.specs.Prelude.{code_of, kind_digits, kind_less, number_in, at, IsRightLane}
use Rattle.egt_check.proofs.block_judging.shelves_are_right.Given as goal

-- the shelves below this digit are right
abbrev pub invariant-loop-digit : goal.invariant-loop-digit
invariant-loop-digit l =
    let men = l.shelves.men in
    (x y : ℕ) → x < l.digit → y < kind_digits men.last.kind →
    IsRightLane l.part l.shelves.targeted l.table men l.shelves.side (x + kind_less men.first.kind) (y + kind_less men.last.kind) (code_of l.table.class (number_in l.table.class (l.shelves.number + x) l.shelves.side y))
    (at l.scores (x + kind_less men.first.kind) (y + kind_less men.last.kind)) (at l.zeroing (x + kind_less men.first.kind) (y + kind_less men.last.kind))
