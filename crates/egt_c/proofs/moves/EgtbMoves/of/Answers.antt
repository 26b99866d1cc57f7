use Rattle.std.proofs.Common.{ℕ, ◌+◌, ap, ◌∙◌, length-set}
use Rattle.egt_c.specs.Prelude.{written}
use Rattle.egt_c.proofs.Listed.{one_more}
use Rattle.egt_c.proofs.moves.EgtbMoves.of.Goals as goal

pub loop-chess_move-preserved : goal.loop-chess_move-preserved
loop-chess_move-preserved c =
    let so_far = c.loop-chess_move in
    let kept = so_far.invariant in
    record {
      size = length-set so_far.listed c.from.result c.of.result ∙ kept.size;
      count = ap (λ (n : ℕ). n + 1) kept.count;
      moves = one_more written so_far.listed c.args.moves.now so_far.chess_move-index c.from.result c.chess_move-item.result c.of.result kept.size c.requires c.loop-chess_move-test.true
          (c.from.ensures ∙ kept.count) c.chess_move-item.is c.of.ensures kept.moves;
    }
