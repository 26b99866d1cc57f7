use Rattle.std.proofs.Common.{◌-◌, subst, sym, arith}
use Rattle.egt_moves.specs.Prelude.{AvoidsMateFor, MatesWithin, chess}
use Rattle.egt_moves.proofs.Trying.{tried_more, listed_is_legal, stalemate_is_no_mate, not_mated_now, tried_all, wins_by, cannot_win, escapes_by, loses}
use Rattle.egt_moves.proofs.forcing.+forcing.Goals as goal

pub is_mated_within-returns-in-Stalemate : goal.is_mated_within-returns-in-Stalemate
is_mated_within-returns-in-Stalemate t c = stalemate_is_no_mate c.args.plies c.args.position.now c.in-Stalemate.ensures

pub is_mated_within-returns-then-plies-eq0 : goal.is_mated_within-returns-then-plies-eq0
is_mated_within-returns-then-plies-eq0 t c =
    subst (λ n. AvoidsMateFor chess n c.args.position.now) (sym c.if-plies-eq0.true) (not_mated_now c.args.position.now c.in-HasMove.ensures)

pub is_mated_within-play_legal-requires : goal.is_mated_within-play_legal-requires
is_mated_within-play_legal-requires t c =
    listed_is_legal c.args.position.now c.as_slice-chess_move-items.result.now c.legal_moves-moves.result.items c.loop-chess_move.chess_move-index c.chess_move-item.result c.loop-chess_move-test.true c.chess_move-item.is c.as_slice-chess_move-items.ensures.value c.legal_moves-moves.ensures.legal

pub is_mated_within-returns-then-not-mates_within : goal.is_mated_within-returns-then-not-mates_within
is_mated_within-returns-then-not-mates_within t c =
    escapes_by c.args.plies c.args.position.now c.play_legal.result c.chess_move-item.result (omega arith) c.in-HasMove.ensures c.play_legal.ensures c.if-not-mates_within.ensures

pub is_mated_within-returns : goal.is_mated_within-returns
is_mated_within-returns t c =
    loses c.args.plies c.args.position.now (omega arith) c.in-HasMove.ensures
    (tried_all (MatesWithin chess (c.args.plies - 1)) c.args.position.now c.as_slice-chess_move-items.result.now c.legal_moves-moves.result.items c.loop-chess_move.chess_move-index c.loop-chess_move-test.false c.as_slice-chess_move-items.ensures.value c.legal_moves-moves.ensures.legal c.loop-chess_move.invariant.1)

pub mates_within-play_legal-requires : goal.mates_within-play_legal-requires
mates_within-play_legal-requires t c =
    listed_is_legal c.args.position.now c.as_slice-chess_move-items.result.now c.legal_moves-moves.result.items c.loop-chess_move.chess_move-index c.chess_move-item.result c.loop-chess_move-test.true c.chess_move-item.is c.as_slice-chess_move-items.ensures.value c.legal_moves-moves.ensures.legal

pub mates_within-returns-then-is_mated_within : goal.mates_within-returns-then-is_mated_within
mates_within-returns-then-is_mated_within t c =
    wins_by c.args.plies c.args.position.now c.play_legal.result c.chess_move-item.result (omega arith) c.play_legal.ensures c.if-is_mated_within.ensures

pub mates_within-returns : goal.mates_within-returns
mates_within-returns t c =
    cannot_win c.args.plies c.args.position.now (omega arith)
    (tried_all (AvoidsMateFor chess (c.args.plies - 1)) c.args.position.now c.as_slice-chess_move-items.result.now c.legal_moves-moves.result.items c.loop-chess_move.chess_move-index c.loop-chess_move-test.false c.as_slice-chess_move-items.ensures.value c.legal_moves-moves.ensures.legal c.loop-chess_move.invariant.1)

pub is_mated_within-loop-chess_move-preserved : goal.is_mated_within-loop-chess_move-preserved
is_mated_within-loop-chess_move-preserved t c = (
  c.loop-chess_move.invariant.0,
  tried_more (MatesWithin chess (c.args.plies - 1)) c.args.position.now c.play_legal.result c.as_slice-chess_move-items.result.now c.loop-chess_move.chess_move-index c.chess_move-item.result c.loop-chess_move-test.true c.chess_move-item.is c.play_legal.ensures c.if-not-mates_within.ensures c.loop-chess_move.invariant.1,
)

pub mates_within-loop-chess_move-preserved : goal.mates_within-loop-chess_move-preserved
mates_within-loop-chess_move-preserved t c = (
  c.loop-chess_move.invariant.0,
  tried_more (AvoidsMateFor chess (c.args.plies - 1)) c.args.position.now c.play_legal.result c.as_slice-chess_move-items.result.now c.loop-chess_move.chess_move-index c.chess_move-item.result c.loop-chess_move-test.true c.chess_move-item.is c.play_legal.ensures c.if-is_mated_within.ensures c.loop-chess_move.invariant.1,
)
