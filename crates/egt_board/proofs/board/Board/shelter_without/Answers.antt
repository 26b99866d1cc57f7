use Rattle.egt_board.proofs.Attacks.{seen_without}
use Rattle.egt_board.proofs.board.Board.shelter_without.Goals as goal

pub returns : goal.returns
returns c = c.shelter_among.ensures _ (seen_without c.args.self.now c.args.side c.args.all.bits c.without.result.bits c.args.lifted c.requires.lifted c.requires.all c.without.ensures.same c.without.ensures.others)
