-- The parts of a table that are judged one after the other, and the tables as they are seen then: the column of the nearest mates is seen as a mate
-- column.
use Rattle.std.specs.Prelude.{◌≡◌, ℕ, Bool, true, List, map, Option, None, option_map}
use Rattle.std.specs.Borrow.{Bor}
use Rattle.egt_index.specs.ShelfCodes.{AreMenOf}
use Rattle.egt_index.specs.declared.shelf_codes.ShelfMen.{ShelfMen}
use Rattle.egt_table.specs.Table.{HasColumn, IsTable, TableValue, entries_or_none}
use Rattle.egt_table.specs.declared.column.Column.{Column}
use Rattle.egt_table.specs.declared.column.Column.TheVariants as columns
use Rattle.egt_entries.specs.NearTables.{near_entry, near_tables}
use Rattle.egt_entries.specs.Tables.{Tables}
use Rattle.egt_check.specs.Worth.{HasBytes}
use Rattle.egt_check.specs.declared.move_scores.Children.{Children}
use Rattle.egt_check.specs.declared.move_scores.FourMenTables.{FourMenTables}
use Rattle.egt_check.specs.declared.part.Part.{Part}
use Rattle.egt_check.specs.declared.part.Part.TheVariants.{Values, Reach}
use Rattle.egt_check.specs.declared.pawn_scores.Promotion.{Promotion}
use Rattle.egt_check.specs.declared.pawn_scores.Promotions.{Promotions}

-- the column that scores come from, of moves that zero too
abbrev pub column_of : Part → Column
column_of Values = columns.Mate
column_of Reach = columns.Reach

abbrev pub mate_in : Part → TableValue → List ℕ
mate_in Values t = t.mate
mate_in Reach t = map near_entry (entries_or_none t.reach)

abbrev pub zeroing_in : Part → TableValue → List ℕ
zeroing_in Values t = t.zeroing
zeroing_in Reach t = map near_entry (entries_or_none t.reach)

abbrev pub reach_in : Part → TableValue → Option (List ℕ)
reach_in Values t = t.reach
reach_in Reach t = None

-- the table as the part is judged
abbrev pub table_in : Part → TableValue → TableValue
table_in part t = record { class = t.class; mate = mate_in part t; zeroing = zeroing_in part t; reach = reach_in part t }

abbrev pub tables_in : Part → Tables → Tables
tables_in Values tables = tables
tables_in Reach tables = near_tables tables

abbrev pub reference_in : Part → Bor TableValue → Bor TableValue
reference_in part r = record { ref_ptr = r.ref_ptr; now = table_in part r.now }

abbrev pub promotion_in : Part → Promotion → Promotion
promotion_in part p = record {
  kind = p.kind;
  both = reference_in part p.both;
  both_flips = p.both_flips;
  before = p.before;
  alone = reference_in part p.alone;
  alone_flips = p.alone_flips;
}

abbrev pub promotions_in : Part → Promotions → Promotions
promotions_in part kinds = record {
  queen = promotion_in part kinds.queen;
  rook = promotion_in part kinds.rook;
  bishop = promotion_in part kinds.bishop;
  knight = promotion_in part kinds.knight;
}

abbrev pub some_promotions_in : Part → Option Promotions → Option Promotions
some_promotions_in Values some = some
some_promotions_in Reach some = option_map (promotions_in Reach) some

abbrev pub children_in : Part → Children → Children
children_in part children = record {
  first = reference_in part children.first;
  first_flips = children.first_flips;
  last = reference_in part children.last;
  last_flips = children.last_flips;
  first_pawn = some_promotions_in part children.first_pawn;
  last_pawn = some_promotions_in part children.last_pawn;
}

abbrev pub four_in : Part → FourMenTables → FourMenTables
four_in part four = record { own = table_in part four.own; children = children_in part four.children }

-- the table has the part's columns, and their bytes tell its entries
abbrev pub TellsPart : Part → TableValue → Type 0
TellsPart part t = HasColumn (column_of part) t × HasBytes (table_in part t)

-- it does where that is known
pub record IsKnownToTell (t : TableValue) (by_values by_reach : Bool) : Type 0 where
  pub values : by_values ≡ true → TellsPart Values t
  pub reach : by_reach ≡ true → TellsPart Reach t

-- the table of the class of these men, whose bytes tell its entries of the part
pub record IsOwnTable (part : Part) (class : ℕ) (men : ShelfMen) (t : TableValue) : Type 0 where
  pub is_table : IsTable t
  pub class_is : t.class ≡ class
  pub there : HasColumn (column_of part) t
  pub bytes : HasBytes (table_in part t)
  pub men_of : AreMenOf t.class men
