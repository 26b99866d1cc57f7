use Rattle.std.proofs.Common.{None, sym, subst}
use Rattle.egt_check.specs.Prelude.{Contains, shown_by, best_found, listed_there, none_found, tried_all, tried_more}
use Rattle.egt_check.specs.Prelude.{tried_none}
use Rattle.egt_check.proofs.successors.best.Goals as goal

pub loop-chess_move-init : goal.loop-chess_move-init
loop-chess_move-init c = tried_none (shown_by c.args.library.now c.args.table.now) c.args.position.now c.as_slice-chess_move-items.result.now None

pub best_after-best-requires-clause-legal : goal.best_after-best-requires-clause-legal
best_after-best-requires-clause-legal c =
    (c.legal_moves-moves.ensures.legal c.chess_move-item.result).0
    (subst (λ l. Contains l c.chess_move-item.result) c.as_slice-chess_move-items.ensures.value (listed_there c.as_slice-chess_move-items.result.now c.loop-chess_move.chess_move-index c.chess_move-item.result c.loop-chess_move-test.true c.chess_move-item.is))

pub loop-chess_move-preserved : goal.loop-chess_move-preserved
loop-chess_move-preserved c =
    tried_more (shown_by c.args.library.now c.args.table.now) c.args.position.now c.as_slice-chess_move-items.result.now c.loop-chess_move.chess_move-index c.chess_move-item.result None c.loop-chess_move.best c.best_after-best.result
    c.loop-chess_move-test.true c.chess_move-item.is c.loop-chess_move.invariant c.best_after-best.ensures

pub returns : goal.returns
returns c =
    let shows = shown_by c.args.library.now c.args.table.now in
    let p = c.args.position.now in
    let moves = c.as_slice-chess_move-items.result.now in
    let tried =
    tried_all shows p moves c.loop-chess_move.chess_move-index None c.loop-chess_move.best c.loop-chess_move-test.false
    (λ m legal. subst (λ l. Contains l m) (sym c.as_slice-chess_move-items.ensures.value) ((c.legal_moves-moves.ensures.legal m).1 legal)) c.loop-chess_move.invariant in record {
      some = best_found shows p (λ m. Unit {0}) (λ m legal. tt) c.loop-chess_move.best tried;
      none = none_found shows p (λ m. Unit {0}) (λ m legal. tt) c.loop-chess_move.best tried;
    }
