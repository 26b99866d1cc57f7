use Rattle.std.proofs.Common.{[], ◌∷◌, refl}
use Rattle.egt_board.proofs.Slots.{shown}
use Rattle.egt_board.proofs.Held.{marked-IsOccupiedBy}
use Rattle.egt_board.proofs.board.Board.of.Goals as goal

pub returns : goal.returns
returns c = λ t.
    let a = c.self.inside in
    marked-IsOccupiedBy c.args.side a.first a.second a.third a.fourth c.args.self.now t _ c.self.invariant
    (shown (a.first ∷ a.second ∷ a.third ∷ a.fourth ∷ []) c.args.self.now c.self.invariant c.self.view_is)
    (rw (c.union.ensures.squares t, c.union-front.ensures.squares t, c.union-back.ensures.squares t, c.occupied_by.ensures t, c.occupied_by-2.ensures t, c.occupied_by-3.ensures t, c.occupied_by-4.ensures t) refl)
