use Rattle.egt_moves.proofs.Admissible.{len_lifted}
use Rattle.egt_moves.proofs.going.moved.Goals as goal

pub put-requires : goal.put-requires
put-requires c =
    rw (c.clear.ensures, c.left-board.ensures.left) (len_lifted c.args.position.now c.args.man c.args.chess_move.from c.args.chess_move.to c.left-board.ensures.admissible c.requires.mine c.requires.stands)
