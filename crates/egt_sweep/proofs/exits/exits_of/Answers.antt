use Rattle.std.proofs.Common.{◌≡◌, ℕ, ◌+◌, ◌<◌, ◌++◌, List, [], ◌∷◌, get_or, length, take, sym, ap, ◌∙◌, arith}
use Rattle.egt_sweep.specs.Prelude.{flat_map, option_to_list, flat_map-append, append-nil, take_more, take_all, played}
use Rattle.egt_sweep.specs.Prelude.{Move, Exit, table_at, exit_by, exits_by, metric_of, known}
use Rattle.egt_sweep.proofs.Collecting.{listed_is_legal}
use Rattle.egt_sweep.proofs.exits.exits_of.Goals as goal

-- of one element more its own
one_more : {X Y : Type 0} (f : X → List Y) (xs : List X) (i : ℕ) (x : X) → i < length xs → x ≡ get_or xs i x → flat_map f (take (i + 1) xs) ≡ flat_map f (take i xs) ++ f x
one_more f xs i x lt here =
    ap (flat_map f) (take_more xs i x lt) ∙ flat_map-append f (take i xs) (get_or xs i x ∷ []) ∙ ap (λ y. flat_map f (take i xs) ++ (f y ++ [])) (sym here) ∙ ap (λ ys. flat_map f (take i xs) ++ ys) (append-nil (f x))

pub add_exit-requires-clause-legal : goal.add_exit-requires-clause-legal
add_exit-requires-clause-legal c =
    listed_is_legal c.args.position.now c.as_slice-chess_move-items.result.now c.legal_moves-moves.result.items c.loop-chess_move.chess_move-index c.chess_move-item.result c.loop-chess_move-test.true c.chess_move-item.is c.as_slice-chess_move-items.ensures.value c.legal_moves-moves.ensures.legal

pub loop-chess_move-preserved : goal.loop-chess_move-preserved
loop-chess_move-preserved c =
    let objective = c.args.objective.now in
    let moves = c.as_slice-chess_move-items.result.now in
    let i = c.loop-chess_move.chess_move-index in
    let m = c.chess_move-item.result in
    let f : Move → List Exit = λ k. option_to_list (exit_by (known (table_at c.args.library.now) c.args.class objective) (metric_of objective) c.args.class c.args.position.now k (played c.args.position.now k)) in (
      c.add_exit.ensures.items ∙ ap (λ (es : List Exit). es ++ f m) c.loop-chess_move.invariant.0 ∙ sym (one_more f moves i m c.loop-chess_move-test.true c.chess_move-item.is),
      omega (arith, c.add_exit.ensures.few, c.loop-chess_move.invariant.1),
    )

pub returns : goal.returns
returns c =
    let objective = c.args.objective.now in
    let moves = c.as_slice-chess_move-items.result.now in
    let by : List Move → List Exit = exits_by (known (table_at c.args.library.now) c.args.class objective) (metric_of objective) c.args.class c.args.position.now in
    c.loop-chess_move.invariant.0 ∙ ap by (take_all c.loop-chess_move.chess_move-index moves (omega (arith, c.loop-chess_move-test.false)) ∙ c.as_slice-chess_move-items.ensures.value ∙ c.legal_moves-moves.ensures.listed)
