use Rattle.std.proofs.Common.{ℕ, ◌+◌, ap, ◌∙◌, length-set}
use Rattle.egt_c.specs.Prelude.{shown_root}
use Rattle.egt_c.proofs.Listed.{one_more}
use Rattle.egt_c.proofs.root_moves.EgtbRootMoves.of.Goals as goal

pub loop-root_move-preserved : goal.loop-root_move-preserved
loop-root_move-preserved c =
    let so_far = c.loop-root_move in
    let kept = so_far.invariant in
    record {
      size = length-set so_far.listed c.from.result c.of.result ∙ kept.size;
      count = ap (λ (n : ℕ). n + 1) kept.count;
      moves = one_more shown_root so_far.listed c.args.moves.now so_far.root_move-index c.from.result c.root_move-item.result c.of.result kept.size c.requires c.loop-root_move-test.true
          (c.from.ensures ∙ kept.count) c.root_move-item.is c.of.ensures kept.moves;
    }
