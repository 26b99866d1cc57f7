use Rattle.egt_board.proofs.BothSides.{other_held}
use Rattle.egt_board.proofs.position.Position.occupancy.Goals as goal

pub returns : goal.returns
returns c =
    let own = rw c.side.ensures.side at c.of-own.ensures.held in
    record {
      own = own;
      enemy = λ t. other_held c.args.self.now.men c.args.self.now.side _ _ _ t (rw c.board.ensures at c.occupied.ensures.free t) (own t) (c.difference.ensures.squares t);
    }
