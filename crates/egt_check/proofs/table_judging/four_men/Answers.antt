use Rattle.std.proofs.Common.{◌≡◌, ℕ, sym, subst}
use Rattle.egt_check.specs.Prelude.{ShelfMen, TableValue, AreFourMenTables, AreTablesOf, IsOwnTable, column_of, four_in}
use Rattle.egt_check.specs.Prelude.{tables_in, Children, FourMenTables, Part, Tables, beside, table_at}
use Rattle.egt_check.proofs.table_judging.four_men.Goals as goal

-- what holds beside each table of the class holds beside this one
beside_this : (part : Part) (class : ℕ) (tables : Tables) (t : TableValue) (men : ShelfMen) (children : Children) (four : FourMenTables) → four.own ≡ t → four.children ≡ children → IsOwnTable part class men t
    → ((other : FourMenTables) → other.children ≡ children → IsOwnTable part class men other.own → AreFourMenTables (column_of part) other men × AreTablesOf (tables_in part (beside tables other.own)) (four_in part other) men)
    → AreFourMenTables (column_of part) four men × AreTablesOf (tables_in part (beside tables t)) (four_in part four) men
beside_this part class tables t men children four own same is each =
    let are = each four same (subst (λ (u : TableValue). IsOwnTable part class men u) (sym own) is) in
    (are.0, subst (λ (u : TableValue). AreTablesOf (tables_in part (beside tables u)) (four_in part four) men) own are.1)

pub returns : goal.returns
returns c =
    let own : IsOwnTable c.args.part c.class.result c.args.men.now c.args.table.now = record {
      is_table = c.class.ensures.table;
      class_is = sym c.class.ensures.class;
      there = c.requires.there;
      bytes = c.requires.bytes;
      men_of = c.requires.men;
    } in
    let are = beside_this c.args.part c.class.result (table_at c.args.library.now) c.args.table.now c.args.men.now c.in_ok-children.children c.beside_own.result c.beside_own.ensures.own c.beside_own.ensures.children own c.in_ok-children.ensures.four in
    record { own = c.beside_own.ensures.own; of = are.0; tables = are.1 }
