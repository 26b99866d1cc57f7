-- The tables of the classes that promotions lead to, wherever the kings stand.
use Rattle.std.proofs.Common.{◌≡◌, ◌≢◌, ℕ, ◌<◌, Bool, [], ◌∷◌, Option, Some, None, IfSome, arith, sym, ap, ◌∙◌, subst}
use Rattle.egt_check.specs.Prelude.{king_of, turned_man, material_of, AreNonKings, AreChildren, AreTablesOf, men_swapped}
use Rattle.egt_check.specs.Prelude.{Setup, White, Black, Man, Column, Tables, beside, Children, Part, Values, Reach}
use Rattle.egt_check.specs.Prelude.{IsOf, HasColumn, TableValue, with_kings, IsShelved, column_of, tables_in, Promotions}
use Rattle.egt_check.specs.Prelude.{men_in_order, IsClassAfter, IsTableAfter, HasPromotion, IsPromotionOf, FourMenTables}
use Rattle.egt_check.specs.Prelude.{AreMenOf, ShelfMen, arriving, table_in, men_after, AreNamed, HasBytes, Promotion}
use Rattle.egt_check.specs.Prelude.{AreFourMenTables, promotions_in, some_promotions_in, ArePromotionsOf, HasPromotions}
use Rattle.egt_check.proofs.NearReading.{is_table_in}
use Rattle.egt_check.proofs.TablePairs.{found_beside}

-- the tables of some promotions, found beside any table of the class
pub beside_any : (part : Part) (tables : Tables) (c : ℕ) (men : ShelfMen) (promotions : Option Promotions)
    → IfSome promotions (λ kinds. (t : TableValue) → t.class ≡ c → HasPromotions (tables_in part (beside tables t)) (promotions_in part kinds) men) → (t : TableValue) → t.class ≡ c
    → IfSome (some_promotions_in part promotions) (λ kinds. HasPromotions (tables_in part (beside tables t)) kinds men)
beside_any Values tables c men None has t same = tt
beside_any Values tables c men (Some kinds) has t same = has t same
beside_any Reach tables c men None has t same = tt
beside_any Reach tables c men (Some kinds) has t same = has t same

module _ (men : ShelfMen) (white black : ℕ) where
  abbrev there : ShelfMen
  there = with_kings men white black

  after_there : (c : ℕ) (before flips : Bool) (man : Man) → AreMenOf c (men_after before flips men man) → AreMenOf c (men_after before flips there man)
  after_there c before flips man are = grind arith

  promotion_there : (column : Column) (promotion : Promotion) → IsPromotionOf column promotion men → IsPromotionOf column promotion there
  promotion_there column promotion is = grind (arith, after_there, arriving)

  pub promotions_there : (column : Column) (promotions : Option Promotions) → IfSome promotions (λ kinds. ArePromotionsOf column kinds men) → IfSome promotions (λ kinds. ArePromotionsOf column kinds there)
  promotions_there column promotions are = grind (arith, promotion_there)

  table_there : (tables : Tables) (promotion : Promotion) → HasPromotion tables promotion men → HasPromotion tables promotion there
  table_there tables promotion has = record { both = has.both; alone = has.alone }

  pub tables_there : (tables : Tables) (promotions : Option Promotions) → IfSome promotions (λ kinds. HasPromotions tables kinds men) → IfSome promotions (λ kinds. HasPromotions tables kinds there)
  tables_there tables promotions has = grind (arith, table_there)

module _ (men : ShelfMen) (white black : ℕ) where
  pub children_there : (column : Column) (children : Children) → AreChildren column children men → AreChildren column children (with_kings men white black)
  children_there column children are = record {
    first_there = are.first_there;
    last_there = are.last_there;
    one = are.one;
    last = are.last;
    first_left = are.first_left;
    last_left = are.last_left;
    first_pawn = promotions_there (men_swapped men) white black column children.first_pawn are.first_pawn;
    last_pawn = promotions_there men white black column children.last_pawn are.last_pawn;
    same = are.same;
  }

  pub four_there : (column : Column) (four : FourMenTables) → AreFourMenTables column four men → AreFourMenTables column four (with_kings men white black)
  four_there column four are = grind (arith, children_there)

  pub tables_of_there : (tables : Tables) (four : FourMenTables) → AreTablesOf tables four men → AreTablesOf tables four (with_kings men white black)
  tables_of_there tables four are = grind (arith, tables_there, men_swapped)

-- ---- the table of a class that a promotion leads to

-- men beside the kings in the other order
beside_swapped : (p : Setup) (one other : Option Man) → AreNonKings p one other → AreNonKings p other one
beside_swapped p one other is = record { kings = is.kings; others = λ man beside. let count = is.others man beside in omega (arith, count); first_other = is.second_other; second_other = is.first_other }

in_order : (c : ℕ) (men : ShelfMen) (next last : Man) → AreMenOf c men → men.first ≡ next → men.last ≡ last → men_in_order (material_of c) ≡ king_of White ∷ king_of Black ∷ next ∷ last ∷ []
in_order c men next last are one_is last_is = sym are.are ∙ ap (λ (m : Man). king_of White ∷ king_of Black ∷ m ∷ men.last ∷ []) one_is ∙ ap (λ (m : Man). king_of White ∷ king_of Black ∷ next ∷ m ∷ []) last_is

class_after : (before : Bool) (c : ℕ) (flips : Bool) (one man : Man) (men : ShelfMen) → c < 36 → ((p : Setup) → AreNonKings p (Some one) (Some man) → IsOf c flips p) → AreMenOf c men
    → AreNamed before men (turned_man flips one) (turned_man flips man) → IsClassAfter before c flips one man
class_after before c flips one man men below of are named = grind (arith, in_order, turned_man, beside_swapped)

-- the table of the class of these two, found beside that of another class
pub table_after : (part : Part) (tables : Tables) (t u : TableValue) (c : ℕ) (before flips : Bool) (one man : Man) (men : ShelfMen) → IsShelved tables c u → tables c ≡ Some u → u.class ≢ t.class → HasColumn (column_of part) u
    → HasBytes (table_in part u) → ((p : Setup) → AreNonKings p (Some one) (Some man) → IsOf c flips p) → AreMenOf c men → AreNamed before men (turned_man flips one) (turned_man flips man)
    → IsTableAfter (tables_in part (beside tables t)) (table_in part u) before flips one man
table_after part tables t u c before flips one man men shelved found apart there bytes of are named = record {
  is_table = is_table_in part u there shelved.table;
  found = found_beside part tables t u apart (ap tables shelved.class ∙ found) there;
  bytes = bytes;
  class_after = subst (λ k. IsClassAfter before k flips one man) (sym shelved.class) (class_after before c flips one man men (subst (λ k. k < 36) shelved.class shelved.table.class_in) of are named);
}
