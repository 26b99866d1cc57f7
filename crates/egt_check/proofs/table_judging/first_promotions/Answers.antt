use Rattle.std.proofs.Common.{◌≡◌, IfSome, subst}
use Rattle.egt_check.specs.Prelude.{ShelfMen, TableValue, column_of, promotions_in, tables_in, ArePromotionsOf}
use Rattle.egt_check.specs.Prelude.{HasPromotions, beside, table_at}
use Rattle.egt_check.proofs.EqualPawns.{same_order}
use Rattle.egt_check.proofs.table_judging.first_promotions.Goals as goal

pub returns-then-are_equal-clause-of : goal.returns-then-are_equal-clause-of
returns-then-are_equal-clause-of c = subst (λ (men : ShelfMen). IfSome c.args.last.now (λ kinds. ArePromotionsOf (column_of c.args.part) kinds men)) (same_order c.args.men.now (c.are_equal.ensures.0 c.if-are_equal.true)) c.requires.of

pub returns-then-are_equal-clause-has : goal.returns-then-are_equal-clause-has
returns-then-are_equal-clause-has c =
    subst (λ (men : ShelfMen). IfSome c.args.last.now (λ kinds. (t : TableValue) → t.class ≡ c.args.class → HasPromotions (tables_in c.args.part (beside (table_at c.args.library.now) t)) (promotions_in c.args.part kinds) men))
    (same_order c.args.men.now (c.are_equal.ensures.0 c.if-are_equal.true)) c.requires.has

pub returns-else-are_equal-clause-has : goal.returns-else-are_equal-clause-has
returns-else-are_equal-clause-has c =
    subst (λ (men : ShelfMen). IfSome c.promotions.result (λ kinds. (t : TableValue) → t.class ≡ c.args.class → HasPromotions (tables_in c.args.part (beside (table_at c.args.library.now) t)) (promotions_in c.args.part kinds) men)) c.men_swapped.ensures c.promotions.ensures.has
