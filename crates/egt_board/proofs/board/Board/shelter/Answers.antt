use Rattle.egt_board.proofs.Attacks.{seen_itself}
use Rattle.egt_board.proofs.board.Board.shelter.Goals as goal

pub returns : goal.returns
returns c = c.shelter_among.ensures c.args.self.now (seen_itself c.args.self.now c.args.side c.occupied-occupied.result.bits c.occupied-occupied.ensures.free)
