use Rattle.std.proofs.Common.{◌≡◌, ◌≢◌, ◌∙◌, ◌+◌, ℕ, arith, ap, inl, inr, replicate, sym, subst, slice_index}
use Rattle.egt_sweep.specs.FillPrelude.{bit_at, cases_eq, get_or-replicate, bit_at-zero, Has, SquareSet, code_of, kind_less}
use Rattle.egt_sweep.specs.FillPrelude.{number_in, square_in, IsToldAt, IsEndScore, IsLaneOf}
use Rattle.egt_sweep.proofs.LanesPut.{end_told}
use Rattle.egt_sweep.proofs.PutEntries.{widened}
use Rattle.egt_sweep.proofs.mending.see_end.Goals as goal

-- the only square there
on_square : (lanes : SquareSet) (square s : ℕ) → ((t : ℕ) → t ≢ square → bit_at lanes.bits t ≡ bit_at 0 t) → Has lanes s → s ≡ square
on_square lanes square s others has = elim (cases_eq s square) [ inl same ↦ same | inr other ↦ absurd (let none = others s other ∙ bit_at-zero s in omega (arith, none, has)) ]

pub returns-clause-mended : goal.returns-clause-mended
returns-clause-mended c =
    let old = c.args.table.now in
    let shelf = c.args.shelf.now in
    widened c.args.part (IsLaneOf old.class shelf c.with-lanes.result) (λ i. i ≡ c.args.code) old c.put_lanes.new.table c.put_lanes.ensures.mended
    (λ i lane.
    let on = c.requires.on in
    let there = on_square c.with-lanes.result c.args.square (lane.0 + kind_less shelf.men.last.kind) c.with-lanes.ensures.others lane.2 in
    let same : lane.0 ≡ c.args.digit = omega (arith, on, there) in
    lane.3 ∙ ap (λ d. code_of old.class (number_in old.class shelf.number shelf.side d)) same ∙ sym c.requires.code)

pub returns-clause-right : goal.returns-clause-right
returns-clause-right c = λ told.
    let old = c.args.table.now in
    let new = c.put_lanes.new.table in
    let shelf = c.args.shelf.now in
    let b : ℕ = c.args.digit + kind_less shelf.men.last.kind in
    let b_in = square_in shelf.men.last.kind c.args.digit c.requires.below in
    let score = c.in-Some.score in
    let at = c.put_lanes.ensures.told told c.args.digit c.requires.below (subst (Has c.with-lanes.result) (sym c.requires.on) c.with-lanes.ensures.same) in
    let here = subst (λ n. IsToldAt c.args.part new c.args.code n n) (get_or-replicate 64 b score 0 b_in) (subst (λ i. IsToldAt c.args.part new i (slice_index (replicate {A = ℕ} 64 score) b) (slice_index (replicate {A = ℕ} 64 score) b)) (sym c.requires.code) at) in
    end_told c.args.part new c.args.code score here (subst (λ k. IsEndScore k c.args.code score) (c.class.ensures.class ∙ sym c.put_lanes.ensures.mended.class) c.in-Some.ensures)
