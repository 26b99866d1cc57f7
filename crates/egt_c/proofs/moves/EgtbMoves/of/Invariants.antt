use Rattle.std.specs.Prelude.{◌≡◌, length, map, take}
use Rattle.egt_c.specs.Prelude.{written}
use Rattle.egt_c.proofs.moves.EgtbMoves.of.Given as goal

abbrev pub invariant-loop-chess_move : goal.invariant-loop-chess_move
invariant-loop-chess_move l = record {
  size : length l.listed ≡ 64;
  count : l.count ≡ l.chess_move-index;
  moves : take l.chess_move-index l.listed ≡ map written (take l.chess_move-index l.moves);
}
