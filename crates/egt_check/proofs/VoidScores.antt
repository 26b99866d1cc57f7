-- Void codes score nothing in a table whose bytes tell its entries.
use Rattle.std.proofs.Common.{◌≡◌, ℕ, ◌%◌, arith, inl, inr, ap}
use Rattle.egt_check.specs.Prelude.{cases_lt, get_or_past, IsVoid, size_of, reach_score, HasColumn, IsTable, TableValue}
use Rattle.egt_check.specs.Prelude.{entries_or_none, Mate, Zeroing, Part, Values, Reach, column_of, table_in, reach_at}
use Rattle.egt_check.specs.Prelude.{HasBytes, column_score, ScoresNoVoids}
use Rattle.egt_table.specs.declared.column.Column.TheVariants as columns
use Rattle.egt_check.proofs.NearReading.{near, near_at}
use Rattle.egt_check.proofs.GreatestScores.{void_score}

-- an entry of the nearest mates is 0 where the one that is read of it is
void_reach : (t : TableValue) → IsTable t → HasColumn columns.Reach t → HasBytes (near t) → (code : ℕ) → IsVoid t.class code → reach_at t code ≡ 0
void_reach t is there bytes code void = elim (cases_lt code (size_of t.class)) [
  | inl below ↦ let read = near_at t code in let none = bytes.void Mate code below void in omega (arith, read, none)
  | inr past ↦ get_or_past (entries_or_none t.reach) code 0 (let size = is.sizes columns.Reach there in omega arith)
]

-- in the column of moves that zero too
pub part_voids : (part : Part) (t : TableValue) → IsTable t → HasColumn (column_of part) t → HasBytes (table_in part t) → ScoresNoVoids t.class (column_score t (column_of part))
part_voids Values t is there bytes code void = void_score t Mate is bytes code void
part_voids Reach t is there bytes code void = ap (λ e. reach_score (e % 256)) (void_reach t is there bytes code void)

-- in the zeroing column beside the mate column
pub part_zeroing_voids : (part : Part) (t : TableValue) → IsTable t → HasBytes (table_in part t) → column_of part ≡ columns.Mate → ScoresNoVoids t.class (column_score t columns.Zeroing)
part_zeroing_voids Values t is bytes same code void = void_score t Zeroing is bytes code void
part_zeroing_voids Reach t is bytes same code void = absurd cc
