use Rattle.std.proofs.Common.{ℕ, ◌≤◌, ◌/◌, ◌%◌, ◌==◌, slice_index, arith, sym, subst, inl, inr}
use Rattle.egt_sweep.specs.FillPrelude.{cases_eq, turned_square, stamp_place}
use Rattle.egt_sweep.proofs.stamps.any_changed.Goals as goal

pub loop-turn-preserved : goal.loop-turn-preserved
loop-turn-preserved c = λ t from before. elim (cases_eq t c.loop-turn.turn) [
  | inl same ↦
      subst (λ (n : ℕ). slice_index c.args.stamps.now (stamp_place c.args.side (turned_square (n % 8) (n / 8 == 1) c.args.white) (turned_square (n % 8) (n / 8 == 1) c.args.black)) ≤ c.args.looked) (sym same) (c.changed_after.ensures c.if-changed_after.false)
  | inr other ↦ c.loop-turn.invariant t from (omega (arith, before, other))
]

pub returns : goal.returns
returns c = grind (arith, stamp_place, turned_square, c.turns_of-first.ensures.all, c.loop-turn-test.false, c.loop-turn.invariant)
