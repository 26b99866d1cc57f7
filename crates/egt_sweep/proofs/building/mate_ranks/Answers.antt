use Rattle.std.proofs.Common.{ℕ, ◌<◌, List, Option, Err, inl, refl, ap, ◌∙◌, subst}
use Rattle.egt_sweep.specs.Prelude.{SomeAbove, TableValue, Mate, table_at, class_game, values_below}
use Rattle.egt_sweep.proofs.TrueChildren.{true_children}
use Rattle.egt_sweep.proofs.building.mate_ranks.Goals as goal

pub returns-in-Err-TooDeep-clause-refused : goal.returns-in-Err-TooDeep-clause-refused
returns-in-Err-TooDeep-clause-refused c =
    let places = c.args.library.now in
    let game = c.in-Ok.game in
    let made = c.in-Ok.ensures in
    let below = subst (λ (n : ℕ). n < 36) c.number-number.ensures.value c.number-number.ensures.below in
    let children = made.exact.0 refl in
    let above = c.solve.ensures.too_deep (c.in-Err-TooDeep.is ∙ ap Err c.in-Err-TooDeep.field-0-is) in
    let here = subst (λ (xs : List (Option TableValue)). SomeAbove (class_game (table_at xs) Mate c.args.class) c.args.limit) made.library
    (subst (λ (k : ℕ). SomeAbove (class_game (table_at game.library.now) Mate k) c.args.limit) made.class above) in
    (children, c.requires.reach_children, inl (refl, c.mate_ranks_are_values.ensures.above (table_at places) c.args.class c.args.limit below (values_below (table_at places) c.args.class (true_children (table_at places) c.args.class c.children_are_true.ensures children)) here))
