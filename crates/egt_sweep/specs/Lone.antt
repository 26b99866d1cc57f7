-- Classes with one piece beside the kings, filled by rows: two for each pair of kings' squares, the first with Black to move.
use Rattle.std.specs.Prelude.{◌≡◌, ◌≢◌, ℕ, ◌+◌, ◌-◌, ◌*◌, ◌/◌, ◌%◌, ◌<◌}
use Rattle.egt_check.specs.Prelude.{K, IsLoneMan, IsToldTable, MayJudge, KeepsPart, TableValue, beside, kind_digits, table_at}
use Rattle.egt_board.specs.declared.man.Man.{Man}
use Rattle.egt_sweep.specs.declared.lone_mending.LoneFilling.{LoneFilling}

-- the man alone is beside the kings, and no king and no pawn
pub record IsLonePiece (c : ℕ) (man : Man) : Type 0 where
  pub man_is : IsLoneMan c man
  pub other : man.kind ≢ K
  pub digits : kind_digits man.kind ≡ 64

-- the table's class has the piece, and its entries of the part can be judged beside those of the children
pub record IsLoneFilling (f : LoneFilling) (t : TableValue) : Type 0 where
  pub told : IsToldTable f.part (beside (table_at f.library.now) t) t
  pub may : MayJudge f.part (table_at f.library.now) t
  pub piece : IsLonePiece t.class f.man

-- the part's entries of the row keep the rules
abbrev pub IsDueRow : LoneFilling → TableValue → ℕ → Type 0
IsDueRow f t row = (digit : ℕ) → digit < 64 → KeepsPart f.part (beside (table_at f.library.now) t) t (row / 2 * 128 + (1 - row % 2) + 2 * digit)
