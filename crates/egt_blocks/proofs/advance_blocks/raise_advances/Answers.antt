use Rattle.std.proofs.Common.{◌≡◌, ◌<◌, ◌↔◌, ℕ, [], get_or, subst}
use Rattle.egt_blocks.specs.Prelude.{bit_at, Advances, at, IsClear, rows_more}
use Rattle.egt_blocks.proofs.AdvanceRaising.{arrived_raised, clear_without}
use Rattle.egt_blocks.proofs.advance_blocks.raise_advances.Goals as goal

pub loop-a-preserved : goal.loop-a-preserved
loop-a-preserved c =
    let men = c.args.men.now in
    let side = c.args.side in
    let arrivals = c.args.arrivals.bits in
    let n = c.loop-a.a in
    let free = c.without-free.result.bits in
    let clear =
    subst (λ s. (u : ℕ) → u < 64 → (bit_at free u ≡ 1) ↔ IsClear men s u) c.at.ensures (clear_without men c.past_kings-open.result.bits free c.at.result c.past_kings-open.ensures c.without-free.ensures.same c.without-free.ensures.others) in
    rows_more (λ a b t. Advances (IsClear men a) side b t × (bit_at arrivals t ≡ 1)) (λ a b t. at c.args.scores.now a t) c.args.out.now c.loop-a.out n c.advanced.result c.loop-a-test.true c.loop-a.invariant
    (λ b b_in. arrived_raised (λ u. bit_at free u ≡ 1) (IsClear men n) side b arrivals (at c.loop-a.out n b) (get_or c.advanced.result b 0) (get_or c.args.scores.now n []) c.kept.result clear c.kept.ensures (c.advanced.ensures b b_in))
