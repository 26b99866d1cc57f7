use Rattle.std.proofs.Common.{◌-◌, arith}
use Rattle.egt_fen.specs.Prelude.{rank_text}
use Rattle.egt_fen.proofs.Written.{below, below-first, below-more}
use Rattle.egt_fen.proofs.board_text.push_placement.Goals as goal

pub loop-rank-init : goal.loop-rank-init
loop-rank-init c = grind (arith, below, below-first, c.in_ok-push_rank.ensures)

pub loop-rank-preserved : goal.loop-rank-preserved
loop-rank-preserved c = grind (arith, below, rank_text, below-more, c.in_ok-push_rank-2.ensures, c.in_ok-push.ensures.items, c.loop-rank.invariant.written)
