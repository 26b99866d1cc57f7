use Rattle.std.proofs.Common.{◌≡◌, ◌↔◌, ◌∙◌, ap, get_or, max, subst, slice_index}
use Rattle.egt_blocks.specs.Prelude.{bit_at, Reaches, at, rows_more}
use Rattle.egt_blocks.proofs.LastTaken.{IsTake, take_raised}
use Rattle.egt_blocks.proofs.taken_blocks.raise_takes.Goals as goal

pub loop-a-preserved : goal.loop-a-preserved
loop-a-preserved c =
    let men = c.args.men.now in
    let scores = c.args.scores.now in
    let kings = c.kings_of-kings.result.bits in
    let reached = c.reach_past-reached.result.bits in
    let n = c.loop-a.a in
    rows_more (IsTake men) (λ a b t. slice_index scores t) c.args.out.now c.loop-a.out n c.greater.result c.loop-a-test.true c.loop-a.invariant
    (λ b b_in. take_raised men kings reached n b (at c.loop-a.out n b) scores c.kings_of-kings.ensures
    (subst (λ s. (bit_at reached b ≡ 1) ↔ Reaches (λ u. bit_at kings u ≡ 0) men.first s b) c.at.ensures (c.reach_past-reached.ensures.reached b b_in))
    (get_or c.greater.result b 0) (c.greater.ensures b b_in ∙ ap (λ v. max (at c.loop-a.out n b) v) (c.kept.ensures b b_in)))
