use Rattle.std.proofs.Common.{[], ◌∷◌}
use Rattle.egt_board.proofs.Slots.{shown, chosen_on}
use Rattle.egt_board.proofs.board.Board.at.Goals as goal

pub returns : goal.returns
returns c =
    let a = c.self.inside in
    rw (c.man_on.ensures, c.either.ensures, c.either-back.ensures, c.either-front.ensures, c.is_on-by_first.ensures, c.is_on-by_second.ensures, c.is_on-by_third.ensures)
    (chosen_on c.args.square a.first a.second a.third a.fourth c.args.self.now (shown (a.first ∷ a.second ∷ a.third ∷ a.fourth ∷ []) c.args.self.now c.self.invariant c.self.view_is))
