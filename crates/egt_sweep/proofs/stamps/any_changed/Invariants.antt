use Rattle.std.specs.Prelude.{ℕ, ◌≤◌, ◌<◌, ◌/◌, ◌%◌, ◌==◌, slice_index}
use Rattle.egt_sweep.specs.FillPrelude.{turned_square, stamp_place}
use Rattle.egt_sweep.proofs.stamps.any_changed.Given as goal

-- no stamp is later after the turns so far
abbrev pub invariant-loop-turn : goal.invariant-loop-turn
invariant-loop-turn l = (t : ℕ) → l.first ≤ t → t < l.turn → slice_index l.stamps (stamp_place l.side (turned_square (t % 8) (t / 8 == 1) l.white) (turned_square (t % 8) (t / 8 == 1) l.black)) ≤ l.looked
