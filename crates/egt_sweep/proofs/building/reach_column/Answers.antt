use Rattle.std.proofs.Common.{ℕ, ◌<◌, List, Option, subst}
use Rattle.egt_sweep.specs.Prelude.{SomeFar, TableValue, table_at, reach_game, reaches_below}
use Rattle.egt_sweep.proofs.TrueChildren.{true_children}
use Rattle.egt_sweep.proofs.building.reach_column.Goals as goal

pub returns-clause-too_deep : goal.returns-clause-too_deep
returns-clause-too_deep c =
    let tables = table_at c.args.library.now in
    let class = c.args.class in
    let made = c.in-Ok.ensures in
    let below = subst (λ (n : ℕ). n < 36) c.number-number.ensures.value c.number-number.ensures.below in
    let children = true_children tables class c.children_are_true.ensures c.requires.children in
    λ deep. c.reach_numbers_are_the_nearest_mates.ensures.far tables class below (reaches_below tables class children c.requires.reach_children)
    (subst (λ (xs : List (Option TableValue)). SomeFar (reach_game (table_at xs) class)) made.library
    (subst (λ (k : ℕ). SomeFar (reach_game (table_at c.in-Ok.game.library.now) k)) made.class (c.nearest.ensures.too_deep deep)))
