use Rattle.std.proofs.Common.{[], ◌∷◌, refl}
use Rattle.egt_board.proofs.Counts.{occupied_few}
use Rattle.egt_board.proofs.Held.{taken-free, stands-within}
use Rattle.egt_board.proofs.Slots.{shown}
use Rattle.egt_board.proofs.board.Board.occupied.Goals as goal

pub returns-clause-free : goal.returns-clause-free
returns-clause-free c = λ t.
    let a = c.self.inside in
    taken-free a.first a.second a.third a.fourth c.args.self.now t _ (shown (a.first ∷ a.second ∷ a.third ∷ a.fourth ∷ []) c.args.self.now c.self.invariant c.self.view_is)
    (rw (c.union.ensures.squares t, c.union-front.ensures.squares t, c.union-back.ensures.squares t, c.taken.ensures t, c.taken-2.ensures t, c.taken-3.ensures t, c.taken-4.ensures t) refl)

pub returns-clause-on_board : goal.returns-clause-on_board
returns-clause-on_board c = λ s man stands.
    let a = c.self.inside in
    stands-within (a.first ∷ a.second ∷ a.third ∷ a.fourth ∷ []) c.args.self.now s man (shown (a.first ∷ a.second ∷ a.third ∷ a.fourth ∷ []) c.args.self.now c.self.invariant c.self.view_is) stands

pub returns-clause-few : goal.returns-clause-few
returns-clause-few c = occupied_few c.args.self.now c.union.result (returns-clause-free c)
