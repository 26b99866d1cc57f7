use Rattle.std.specs.Prelude.{◌≡◌, ◌∷◌, ◌++◌, take}
use Rattle.egt_probe.specs.Prelude.{flat_map, text_of}
use Rattle.egt_probe.proofs.wording.push_moves.Given as goal

abbrev pub invariant-loop-chess_move : goal.invariant-loop-chess_move
invariant-loop-chess_move l = l.text.items ≡ l.initial.text.items ++ flat_map (λ n. 32 ∷ text_of n) (take l.chess_move-index l.rest)
