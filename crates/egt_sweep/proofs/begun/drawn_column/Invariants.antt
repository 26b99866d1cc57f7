use Rattle.std.specs.Prelude.{◌≡◌, ℕ, ◌<◌, length}
use Rattle.egt_sweep.specs.FillPrelude.{size_of, IsDrawnAt}
use Rattle.egt_sweep.proofs.begun.drawn_column.Given as goal

-- the codes so far are drawn
abbrev pub invariant-loop-code : goal.invariant-loop-code
invariant-loop-code l = (length l.entries.items ≡ size_of l.class) × ((i : ℕ) → i < l.code → IsDrawnAt l.class l.entries.items i)
