use Rattle.std.proofs.Common.{◌≡◌, ◌<◌, ◌↔◌, ℕ, [], get_or, subst}
use Rattle.egt_blocks.specs.Prelude.{bit_at, AdvancesBy, at, IsClear, rows_more}
use Rattle.egt_blocks.proofs.AdvanceRaising.{clear_without}
use Rattle.egt_blocks.proofs.LeapRaising.{arrived_by}
use Rattle.egt_blocks.proofs.advance_blocks.raise_steps.Goals as goal

pub loop-a-preserved : goal.loop-a-preserved
loop-a-preserved c =
    let men = c.args.men.now in
    let side = c.args.side in
    let arrivals = c.args.arrivals.bits in
    let n = c.loop-a.a in
    let free = c.without-free.result.bits in
    let clear =
    subst (λ s. (u : ℕ) → u < 64 → (bit_at free u ≡ 1) ↔ IsClear men s u) c.at.ensures (clear_without men c.past_kings-open.result.bits free c.at.result c.past_kings-open.ensures c.without-free.ensures.same c.without-free.ensures.others) in
    rows_more (λ a b t. AdvancesBy 1 (IsClear men a) side b t × (bit_at arrivals t ≡ 1)) (λ a b t. at c.args.scores.now a t) c.args.out.now c.loop-a.out n c.advanced_by_one.result c.loop-a-test.true c.loop-a.invariant
    (λ b b_in. arrived_by 1 (λ u. bit_at free u ≡ 1) (IsClear men n) (λ u. bit_at arrivals u ≡ 1) side b arrivals (at c.loop-a.out n b) (get_or c.advanced_by_one.result b 0) (get_or c.args.scores.now n []) c.kept.result clear (λ u u_in. ((λ h. h), (λ h. h))) c.kept.ensures
    (c.advanced_by_one.ensures b b_in))
