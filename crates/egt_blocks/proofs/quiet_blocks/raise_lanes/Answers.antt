use Rattle.std.proofs.Common.{◌≡◌, ◌↔◌, ◌<◌, ℕ, get_or, subst}
use Rattle.egt_blocks.specs.Prelude.{bit_at, Reaches, at, IsClear, rows_more}
use Rattle.egt_blocks.proofs.QuietRaising.{steps_raised}
use Rattle.egt_blocks.proofs.quiet_blocks.raise_lanes.Goals as goal

pub loop-a-preserved : goal.loop-a-preserved
loop-a-preserved c =
    let men = c.args.men.now in
    let free = c.clear_of-free.result.bits in
    let n = c.loop-a.a in
    rows_more (λ a b t. Reaches (IsClear men a) men.last b t) (λ a b t. at c.args.scores.now a t) c.args.out.now c.loop-a.out n c.last_man_raised.result c.loop-a-test.true c.loop-a.invariant
    (λ b b_in. steps_raised (λ u. bit_at free u ≡ 1) (IsClear men n) men.last b (λ t. at c.args.scores.now n t) (at c.loop-a.out n b) (get_or c.last_man_raised.result b 0) (subst (λ s. (u : ℕ) → u < 64 → (bit_at free u ≡ 1) ↔ IsClear men s u) c.at.ensures c.clear_of-free.ensures) (c.last_man_raised.ensures b b_in))
