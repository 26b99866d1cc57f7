use Rattle.std.proofs.Common.{◌≡◌, ℕ, ◌+◌, Some, sym, subst}
use Rattle.egt_check.specs.Prelude.{Contains, Setup, Move, IsNearest, ShowsReachOf, table_at, beside, Tried}
use Rattle.egt_check.specs.Prelude.{listed_there, tried_before, tried_listed, untried}
use Rattle.egt_check.proofs.NearestStep.{least_found, nearest_of_both, nearest_of_none, nearest_of_one, nowhere_found}
use Rattle.egt_check.proofs.successors.least_reach.Goals as goal

pub loop-chess_move-init : goal.loop-chess_move-init
loop-chess_move-init c =
    let moves = c.as_slice-chess_move-items.result.now in
    nearest_of_none (λ (q : Setup) (k : ℕ). ShowsReachOf (beside (table_at c.args.library.now) c.args.table.now) q (Some k)) c.args.position.now (Tried moves 0) (untried moves)

pub reach_after-reach-requires-clause-legal : goal.reach_after-reach-requires-clause-legal
reach_after-reach-requires-clause-legal c =
    (c.legal_moves-moves.ensures.legal c.chess_move-item.result).0
    (subst (λ l. Contains l c.chess_move-item.result) c.as_slice-chess_move-items.ensures.value (listed_there c.as_slice-chess_move-items.result.now c.loop-chess_move.chess_move-index c.chess_move-item.result c.loop-chess_move-test.true c.chess_move-item.is))

pub loop-chess_move-preserved : goal.loop-chess_move-preserved
loop-chess_move-preserved c =
    let p = c.args.position.now in
    let tables = beside (table_at c.args.library.now) c.args.table.now in
    let moves = c.as_slice-chess_move-items.result.now in
    let n = c.loop-chess_move.chess_move-index in
    let m = c.chess_move-item.result in
    let shows = λ (q : Setup) (k : ℕ). ShowsReachOf tables q (Some k) in
    let legal = (c.legal_moves-moves.ensures.legal m).0 (subst (λ l. Contains l m) c.as_slice-chess_move-items.ensures.value (listed_there moves n m c.loop-chess_move-test.true c.chess_move-item.is)) in
    let one = nearest_of_one c.facts.ensures tables p m c.reach_after-reach.result c.reach_shown.result c.side-side.ensures.admissible legal c.reach_after-reach.ensures c.reach_shown.ensures.some c.reach_shown.ensures.none in
    subst (IsNearest shows p (Tried moves (n + 1))) (sym c.nearer-least.ensures)
    (nearest_of_both shows p (Tried moves n) (λ (o : Move). o ≡ m) (Tried moves (n + 1)) c.loop-chess_move.least c.reach_shown.result c.loop-chess_move.invariant one
    (λ (o : Move). tried_before moves n m o c.loop-chess_move-test.true c.chess_move-item.is))

pub returns-clause-some : goal.returns-clause-some
returns-clause-some c =
    let moves = c.as_slice-chess_move-items.result.now in
    let n = c.loop-chess_move.chess_move-index in
    least_found (λ (q : Setup) (k : ℕ). ShowsReachOf (beside (table_at c.args.library.now) c.args.table.now) q (Some k)) c.args.position.now (Tried moves n) c.loop-chess_move.least c.loop-chess_move.invariant
    (λ m legal. tried_listed moves n m c.loop-chess_move-test.false (subst (λ l. Contains l m) (sym c.as_slice-chess_move-items.ensures.value) ((c.legal_moves-moves.ensures.legal m).1 legal)))

pub returns-clause-none : goal.returns-clause-none
returns-clause-none c =
    let moves = c.as_slice-chess_move-items.result.now in
    let n = c.loop-chess_move.chess_move-index in
    nowhere_found (λ (q : Setup) (k : ℕ). ShowsReachOf (beside (table_at c.args.library.now) c.args.table.now) q (Some k)) c.args.position.now (Tried moves n) c.loop-chess_move.least c.loop-chess_move.invariant
    (λ m legal. tried_listed moves n m c.loop-chess_move-test.false (subst (λ l. Contains l m) (sym c.as_slice-chess_move-items.ensures.value) ((c.legal_moves-moves.ensures.legal m).1 legal)))
