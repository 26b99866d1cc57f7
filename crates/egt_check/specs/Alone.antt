-- The entries of a class with one man beside the kings, by the squares of the kings: he is the last of the men.
use Rattle.std.specs.Prelude.{◌≡◌, ◌≢◌, ℕ, ◌+◌, ◌*◌, ◌<◌, Some, IsSome}
use Rattle.egt_blocks.specs.Prelude.{side_number, IsLoneMan, kind_digits, IsRaised, AreCodesAlone}
use Rattle.egt_table.specs.Prelude.{HasColumn, IsTable, TableValue}
use Rattle.egt_entries.specs.Prelude.{Tables}
use Rattle.egt_board.specs.declared.man.Kind.TheVariants.{K}
use Rattle.egt_board.specs.declared.man.Side.{Side}
use Rattle.egt_table.specs.declared.column.Column.{Column}
use Rattle.egt_entries.specs.Tables.{HasChildren, HasReachChildren, beside, table_at}
use Rattle.egt_check.specs.Parts.{column_of, table_in}
use Rattle.egt_check.specs.RightBlock.{KeepsPart}
use Rattle.egt_check.specs.RightRow.{due_in}
use Rattle.egt_check.specs.Worth.{HasBytes, column_score}
use Rattle.egt_check.specs.declared.lone_judging.ThreeMen.{ThreeMen}
use Rattle.egt_check.specs.declared.part.Part.{Part}
use Rattle.egt_check.specs.declared.part.Part.TheVariants.{Values, Reach}

-- the class's table among these, whose bytes tell its entries of the part
pub record IsToldTable (part : Part) (tables : Tables) (t : TableValue) : Type 0 where
  pub is_table : IsTable t
  pub found : tables t.class ≡ Some t
  pub there : HasColumn (column_of part) t
  pub bytes : HasBytes (table_in part t)

-- the tables of the children have what the part's entries are judged by
abbrev pub MayJudge : Part → Tables → TableValue → Type 0
MayJudge Values tables t = HasChildren tables t.class
MayJudge Reach tables t = IsSome t.reach × HasChildren tables t.class × HasReachChildren tables t.class

-- the table's class has the man, and its entries can be judged by rows and alone
pub record AreThreeMen (three : ThreeMen) : Type 0 where
  pub told : IsToldTable three.part (beside (table_at three.library.now) three.table.now) three.table.now
  pub may : MayJudge three.part (table_at three.library.now) three.table.now
  pub man : IsLoneMan three.table.now.class three.men.last
  pub other : three.men.last.kind ≢ K

-- the part's entries at the code keep the rules
abbrev pub KeepsCode : ThreeMen → ℕ → Type 0
KeepsCode three i = KeepsPart three.part (beside (table_at three.library.now) three.table.now) three.table.now i

-- so do those from this code on, every other one from that of the side to move, for each digit of the man
abbrev pub IsJudgedRow : ThreeMen → (first : ℕ) → Side → Type 0
IsJudgedRow three first side = (digit : ℕ) → digit < kind_digits three.men.last.kind → KeepsCode three (first + side_number side + 2 * digit)

-- the column's score at the code is due to the greatest after quiet steps, where the man stands on s, and there is such a step
pub record IsDueAlone (three : ThreeMen) (column : Column) (side : Side) (s i : ℕ) : Type 0 where
  pub score : ℕ
  pub some : score ≢ 0
  pub raised : IsRaised 0 (AreCodesAlone three.table.now.class three.men side s) (column_score three.table.now column) score
  pub due : column_score three.table.now column i ≡ due_in three.part score
