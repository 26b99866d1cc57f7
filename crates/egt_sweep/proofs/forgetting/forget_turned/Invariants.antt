use Rattle.std.specs.Prelude.{◌≡◌, ℕ, ◌≤◌, ◌<◌, ◌/◌, ◌%◌, ◌==◌, None, length, slice_index_or}
use Rattle.egt_sweep.specs.FillPrelude.{turned_square, wide_place, Column, AreFewer}
use Rattle.egt_sweep.proofs.forgetting.forget_turned.Given as goal

-- the keys at the places of the turns so far are gone
abbrev pub invariant-loop-turn : goal.invariant-loop-turn
invariant-loop-turn l =
    AreFewer l.fn.keys l.keys
    × ((t : ℕ) (column : Column) → l.first ≤ t → t < l.turn → slice_index_or l.keys (wide_place column (turned_square (t % 8) (t / 8 == 1) l.white) (turned_square (t % 8) (t / 8 == 1) l.black) (length l.fn.keys)) None ≡ None)
    × (length l.keys ≡ length l.fn.keys)
