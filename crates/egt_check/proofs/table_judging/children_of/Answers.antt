use Rattle.std.proofs.Common.{◌≢◌, ℕ, false, Some, refl, rules, sym, subst}
use Rattle.egt_check.specs.Prelude.{Setup, IsOf, AreNonKings, column_of, four_in, tables_in, AreFourMenTables, AreTablesOf}
use Rattle.egt_check.specs.Prelude.{Children, beside, table_at, men_swapped}
use Rattle.egt_check.proofs.TableFound.{beside_own}
use Rattle.egt_check.proofs.NearReading.{found_in, is_table_in}
use Rattle.egt_check.proofs.PromotionTables.{beside_any}
use Rattle.egt_check.proofs.TablePairs.{table_left}
use Rattle.egt_check.proofs.VoidScores.{part_voids, part_zeroing_voids}
use Rattle.egt_check.proofs.table_judging.children_of.Goals as goal

pub returns-clause-four : goal.returns-clause-four
returns-clause-four c = λ four same is.
    let part = c.args.part in
    let t = four.own in
    let tables = table_at c.args.library.now in
    let men = c.args.men.now in
    let first = c.in_ok-first.first.now in
    let last = c.in_ok-last.last.now in
    let class = sym is.class_is in
    let first_apart = subst (λ (k : ℕ). first.class ≢ k) class (c.is_left.ensures.apart c.if-not-is_left.false) in
    let last_apart = subst (λ (k : ℕ). last.class ≢ k) class (c.is_left-else-not-is_left.ensures.apart c.if-not-is_left-2.false) in
    subst (λ (children : Children). AreFourMenTables (column_of part) (record { own = four.own; children = children }) men × AreTablesOf (tables_in part (beside tables t)) (four_in part (record { own = four.own; children = children })) men) (sym same) (
      record {
        own_there = is.there;
        own_voids = part_voids part t is.is_table is.there is.bytes;
        zeroing_voids = part_zeroing_voids part t is.is_table is.bytes;
        men_of = is.men_of;
        children = search rules;
      },
      record {
        is_table = is_table_in part t is.there is.is_table;
        found = found_in part (beside tables t) t is.there (beside_own tables t t.class refl);
        bytes = is.bytes;
        first = table_left part tables t first c.of_men-first_class.result.0 c.of_men-first_class.result.1 men.first c.in_ok-first.ensures.shelved c.in_ok-first.ensures.is first_apart
            c.in_ok-first.ensures.there (c.is_left.ensures.lone c.if-not-is_left.false) c.in_ok-first.ensures.bytes c.of_men-first_class.ensures.class;
        last = table_left part tables t last c.of_men-last_class.result.0 c.of_men-last_class.result.1 men.last c.in_ok-last.ensures.shelved c.in_ok-last.ensures.is last_apart
            c.in_ok-last.ensures.there (c.is_left-else-not-is_left.ensures.lone c.if-not-is_left-2.false) c.in_ok-last.ensures.bytes c.of_men-last_class.ensures.class;
        own_after = record {
          below = is.is_table.class_in;
          of = subst (λ (k : ℕ). (p : Setup) → AreNonKings p (Some men.first) (Some men.last) → IsOf k false p) class (c.is_own_class.ensures c.if-not-is_own_class.false);
          order = sym is.men_of.are;
        };
        first_pawn = beside_any part tables c.args.class (men_swapped men) c.first_promotions.result c.first_promotions.ensures.has t is.class_is;
        last_pawn = beside_any part tables c.args.class men c.promotions-last_pawn.result c.promotions-last_pawn.ensures.has t is.class_is;
      },
    )
