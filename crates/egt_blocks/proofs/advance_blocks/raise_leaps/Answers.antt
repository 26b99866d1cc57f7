use Rattle.std.proofs.Common.{◌≡◌, ◌<◌, ◌↔◌, ℕ, [], get_or, subst}
use Rattle.egt_blocks.specs.Prelude.{bit_at, AdvancesBy, at, IsBesideWhere, IsClear, rows_more}
use Rattle.egt_blocks.proofs.AdvanceRaising.{clear_without}
use Rattle.egt_blocks.proofs.LeapRaising.{arrived_by}
use Rattle.egt_blocks.proofs.advance_blocks.raise_leaps.Goals as goal

pub loop-a-preserved : goal.loop-a-preserved
loop-a-preserved c =
    let men = c.args.men.now in
    let side = c.args.side in
    let beside = c.args.beside in
    let n = c.loop-a.a in
    let free = c.without-free.result.bits in
    let arrivals = c.squares_where-arrivals.result.bits in
    let clear =
    subst (λ s. (u : ℕ) → u < 64 → (bit_at free u ≡ 1) ↔ IsClear men s u) c.at-square.ensures (clear_without men c.past_kings-open.result.bits free c.at-square.result c.past_kings-open.ensures c.without-free.ensures.same c.without-free.ensures.others) in
    let are = subst (λ s. (u : ℕ) → u < 64 → (bit_at arrivals u ≡ 1) ↔ IsBesideWhere beside s u) c.at-square.ensures c.squares_where-arrivals.ensures in
    rows_more (λ a b t. AdvancesBy 2 (IsClear men a) side b t × IsBesideWhere beside a t) (λ a b t. at c.args.scores.now a t) c.args.out.now c.loop-a.out n c.advanced_by_two.result c.loop-a-test.true c.loop-a.invariant
    (λ b b_in. arrived_by 2 (λ u. bit_at free u ≡ 1) (IsClear men n) (IsBesideWhere beside n) side b arrivals (at c.loop-a.out n b) (get_or c.advanced_by_two.result b 0) (get_or c.args.scores.now n []) c.kept.result clear are c.kept.ensures
    (c.advanced_by_two.ensures b b_in))
