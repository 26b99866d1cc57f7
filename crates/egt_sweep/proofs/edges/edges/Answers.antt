use Rattle.std.proofs.Common.{arith}
use Rattle.egt_sweep.specs.Prelude.{LeadsOn}
use Rattle.egt_sweep.proofs.Collecting.{listed_is_legal, collected_start, collected_more, collected_all, edges_collected, members_then}
use Rattle.egt_sweep.proofs.edges.edges.Goals as goal

pub loop-chess_move-init : goal.loop-chess_move-init
loop-chess_move-init c = collected_start (LeadsOn c.args.metric c.args.class c.args.position.now) c.as_slice-chess_move-items.result.now c.new-list.result.items c.new-list.ensures

pub add_edge-requires-clause-legal : goal.add_edge-requires-clause-legal
add_edge-requires-clause-legal c =
    listed_is_legal c.args.position.now c.as_slice-chess_move-items.result.now c.legal_moves-moves.result.items c.loop-chess_move.chess_move-index c.chess_move-item.result c.loop-chess_move-test.true c.chess_move-item.is c.as_slice-chess_move-items.ensures.value c.legal_moves-moves.ensures.legal

pub loop-chess_move-preserved : goal.loop-chess_move-preserved
loop-chess_move-preserved c = (
  c.add_edge.ensures.ascending,
  omega (arith, c.add_edge.ensures.few, c.loop-chess_move.invariant.1),
  λ k. members_then (c.add_edge.ensures.members k) (c.loop-chess_move.invariant.2 k)
      (collected_more (LeadsOn c.args.metric c.args.class c.args.position.now) c.as_slice-chess_move-items.result.now c.loop-chess_move.chess_move-index c.chess_move-item.result k c.loop-chess_move-test.true c.chess_move-item.is),
)

pub returns-clause-exact : goal.returns-clause-exact
returns-clause-exact c i at k =
    let moves = c.as_slice-chess_move-items.result.now in
    let all = collected_all (LeadsOn c.args.metric c.args.class c.args.position.now) moves c.loop-chess_move.chess_move-index k (omega (arith, c.loop-chess_move-test.false)) in
    let edges = edges_collected c.laws.ensures c.args.metric c.args.class c.args.position.now moves c.legal_moves-moves.result.items i k c.as_slice-chess_move-items.ensures.value c.legal_moves-moves.ensures.legal at in
    let here = c.loop-chess_move.invariant.2 k in
    (λ h. edges.0 (all.0 (here.0 h)), λ h. here.1 (all.1 (edges.1 h)))
