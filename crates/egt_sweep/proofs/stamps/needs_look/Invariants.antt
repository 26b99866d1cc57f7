use Rattle.std.specs.Prelude.{◌≡◌, ℕ, ◌≤◌, slice_index}
use Rattle.egt_sweep.specs.FillPrelude.{bit_at, other_side, Side, IsBesideKing, with_king, stamp_place, TurnsTo}
use Rattle.egt_sweep.proofs.stamps.needs_look.Given as goal

-- no stamp is later after the king's steps so far
abbrev pub invariant-loop-to : goal.invariant-loop-to
invariant-loop-to l =
    (k : ℕ) → IsBesideKing l.men l.side k → bit_at l.rest.bits k ≡ 0 → (w b : ℕ) (s : Side) → TurnsTo l.class (with_king l.men l.side k).white (with_king l.men l.side k).black (other_side l.side) w b s
    → slice_index l.stamps (stamp_place s w b) ≤ l.looked

abbrev pub decreases-loop-to : goal.decreases-loop-to
decreases-loop-to l = l.rest.bits
