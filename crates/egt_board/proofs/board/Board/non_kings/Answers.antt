use Rattle.egt_board.proofs.KingsAside.{aside}
use Rattle.egt_board.proofs.board.Board.non_kings.Goals as goal

pub returns : goal.returns
returns c =
    let a = c.self.inside in
    rw (c.entry.ensures, c.entry-2.ensures, c.without_king-front.ensures, c.without_king-back.ensures)
    (aside a.first a.second a.third a.fourth c.args.self.now c.requires c.self.invariant c.self.view_is)
