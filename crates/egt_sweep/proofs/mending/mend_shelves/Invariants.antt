use Rattle.std.specs.Prelude.{◌≡◌, length}
use Rattle.egt_sweep.specs.FillPrelude.{AllEnded, AreRightRows, IsCodeIn, IsMendedAt}
use Rattle.egt_sweep.specs.declared.mending.Mended.TheVariants as mends
use Rattle.egt_sweep.proofs.mending.mend_shelves.Given as goal

-- the shelves below this digit are right
abbrev pub invariant-loop-digit : goal.invariant-loop-digit
invariant-loop-digit l =
    IsMendedAt l.part (IsCodeIn l.fn.table.class l.shelves) l.fn.table l.table
    × (l.found ≡ mends.Due → l.table ≡ l.fn.table)
    × (length l.ended ≡ 64)
    × AllEnded l.part l.table l.shelves l.ended
    × AreRightRows l.part l.table l.shelves l.scores l.zeroing l.digit
