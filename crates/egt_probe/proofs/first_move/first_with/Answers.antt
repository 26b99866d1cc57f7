use Rattle.std.proofs.Common.{ℕ, subst}
use Rattle.egt_probe.specs.Prelude.{ShowsValue}
use Rattle.egt_probe.proofs.Ordered.{listed_is_legal, misses_more, misses_next, first_found, none_found}
use Rattle.egt_probe.proofs.first_move.first_with.Goals as goal

pub after-next-requires : goal.after-next-requires
after-next-requires c = listed_is_legal c.args.position.now c.as_slice-chess_move-items.result.now c.legal_moves-moves.result.items c.loop-chess_move.chess_move-index c.chess_move-item.result c.loop-chess_move-test.true c.chess_move-item.is c.as_slice-chess_move-items.ensures.value c.legal_moves-moves.ensures.legal

pub mate_entry-requires : goal.mate_entry-requires
mate_entry-requires c = c.moves_stay_loaded.ensures c.chess_move-item.result c.after-next.result c.after-next.ensures

pub returns-then-mate_entry-entry-clause-some : goal.returns-then-mate_entry-entry-clause-some
returns-then-mate_entry-entry-clause-some c =
    first_found c.args.position.now c.args.entry c.as_slice-chess_move-items.result.now c.legal_moves-moves.result.items c.loop-chess_move.chess_move-index c.chess_move-item.result c.after-next.result c.as_slice-chess_move-items.ensures.value c.legal_moves-moves.ensures.legal c.legal_moves-moves.ensures.ordered
    c.loop-chess_move-test.true c.chess_move-item.is c.loop-chess_move.invariant c.after-next.ensures
    (subst (λ (x : ℕ). ShowsValue c.after-next.result x) c.if-mate_entry-entry.true c.mate_entry.ensures)

pub loop-chess_move-preserved : goal.loop-chess_move-preserved
loop-chess_move-preserved c =
    misses_more c.args.position.now c.args.entry c.as_slice-chess_move-items.result.now c.loop-chess_move.chess_move-index c.chess_move-item.result c.loop-chess_move-test.true c.chess_move-item.is c.loop-chess_move.invariant
    (misses_next c.args.position.now c.args.entry c.as_slice-chess_move-items.result.now c.chess_move-item.result c.after-next.result c.mate_entry.result
    (λ r s there here. c.facts.ensures.one_next c.args.position.now r s c.chess_move-item.result there here) c.after-next.ensures c.mate_entry.ensures c.if-mate_entry-entry.false)

pub returns-clause-none : goal.returns-clause-none
returns-clause-none c =
    none_found c.args.position.now c.args.entry c.as_slice-chess_move-items.result.now c.legal_moves-moves.result.items c.loop-chess_move.chess_move-index c.as_slice-chess_move-items.ensures.value c.legal_moves-moves.ensures.legal c.loop-chess_move-test.false c.loop-chess_move.invariant
