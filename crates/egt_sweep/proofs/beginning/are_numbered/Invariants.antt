use Rattle.std.specs.Prelude.{◌≡◌, ℕ, ◌<◌, slice_index, slice_index_or}
use Rattle.egt_sweep.specs.FillPrelude.{Item, place_of}
use Rattle.egt_sweep.proofs.beginning.are_numbered.Given as goal

-- the numbers of the items that came before stand at their places
abbrev pub invariant-loop-number : goal.invariant-loop-number
invariant-loop-number l = (k : ℕ) (d : Item) → k < l.number → slice_index l.places (place_of (slice_index_or l.items k d)) ≡ k
