use Rattle.std.proofs.Common.{[], ◌∷◌}
use Rattle.std.specs.FinMap as map
use Rattle.egt_board.proofs.Slots.{AreShown, shown, shown_less, without_four, placed_of, kept_of}
use Rattle.egt_board.proofs.board.Board.clear.Goals as goal

-- the slots afterwards
after : (c : goal.After-chosen-4) → AreShown (c.chosen.result ∷ c.chosen-2.result ∷ c.chosen-3.result ∷ c.chosen-4.result ∷ []) (map.remove c.args.self.now c.args.square)
after c =
    let a = c.self.inside in
    rw (c.chosen.ensures, c.chosen-2.ensures, c.chosen-3.ensures, c.chosen-4.ensures, c.is_some-by_first.ensures, c.is_some.ensures, c.is_some-2.ensures, c.is_some-3.ensures, c.man_on.ensures, c.man_on-2.ensures, c.man_on-3.ensures, c.man_on-4.ensures, without_four c.args.square a.first a.second a.third a.fourth)
    (shown_less (a.first ∷ a.second ∷ a.third ∷ a.fourth ∷ []) c.args.self.now c.args.square
    (shown (a.first ∷ a.second ∷ a.third ∷ a.fourth ∷ []) c.args.self.now c.self.invariant c.self.view_is))

pub invariant_of-self : goal.invariant_of-self
invariant_of-self c = kept_of _ _ (after c)

pub returns : goal.returns
returns c = placed_of _ _ (after c)
