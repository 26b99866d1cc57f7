use Rattle.std.proofs.Common.{◌-◌, sym, subst, arith}
use Rattle.egt_probe.specs.Prelude.{Side, HasValue, chess, mate_by}
use Rattle.egt_probe.proofs.Best.{turned, line_step, line_end}
use Rattle.egt_probe.proofs.best_line.best_line.Goals as goal

pub loop-left-preserved : goal.loop-left-preserved
loop-left-preserved c =
    let here = c.loop-left.here in
    let q = c.next_move-chess_move.result.1 in
    let m = c.next_move-chess_move.result.0 in
    let first = c.next_move-chess_move.ensures.first in
    record {
      few = omega arith;
      loaded = c.next_move-chess_move.ensures.loaded;
      value = subst (λ (s : Side). HasValue chess q (mate_by s c.args.winner (c.loop-left.left - 1))) (sym (turned here q m first.leads)) first.value;
      line = line_step c.args.position.now here q (mate_by c.args.position.now.side c.args.winner c.args.plies) m c.args.winner c.loop-left.left (c.loop-left.left - 1) c.loop-left.moves.items c.push.new.self.items (omega arith)
          c.loop-left.invariant.value first c.in_ok-push.ensures.items c.loop-left.invariant.line;
    }

pub returns : goal.returns
returns c =
    line_end c.args.position.now c.loop-left.here (mate_by c.args.position.now.side c.args.winner c.args.plies) c.args.winner c.loop-left.left c.loop-left.moves.items (omega arith)
    c.loop-left.invariant.value c.loop-left.invariant.line
