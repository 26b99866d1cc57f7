use Rattle.std.specs.Prelude.{◌≡◌, length, map, take}
use Rattle.egt_c.specs.Prelude.{shown_root}
use Rattle.egt_c.proofs.root_moves.EgtbRootMoves.of.Given as goal

abbrev pub invariant-loop-root_move : goal.invariant-loop-root_move
invariant-loop-root_move l = record {
  size : length l.listed ≡ 64;
  count : l.count ≡ l.root_move-index;
  moves : take l.root_move-index l.listed ≡ map shown_root (take l.root_move-index l.moves);
}
