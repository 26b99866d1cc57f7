-- Entries of a class with two men beside the kings, by their shelves.
use Rattle.std.specs.Prelude.{◌≢◌, ℕ, ◌+◌, ◌<◌, Bool, None}
use Rattle.egt_blocks.specs.Prelude.{code_of, kind_digits, number_in, size_of, TellsMen, stand_on}
use Rattle.egt_entries.specs.Prelude.{TableValue, IsJudged, IsJudgedBy, KeepsReach, Tables}
use Rattle.egt_board.specs.declared.man.Side.{Side}
use Rattle.egt_index.specs.declared.shelf_codes.ShelfMen.{ShelfMen}
use Rattle.egt_entries.specs.declared.metric.Metric.{Metric}
use Rattle.egt_check.specs.declared.part.Part.{Part}
use Rattle.egt_check.specs.declared.part.Part.TheVariants.{Values, Reach}
use Rattle.egt_check.specs.Parts.{column_of}
use Rattle.egt_check.specs.RightRow.{IsRightAtOf}
use Rattle.egt_check.specs.Worth.{column_score}

-- the code tells the men with the first on a and the last on b, and a target where one was passed, and the part's entries are due to these greatest scores
pub record IsRightLane (part : Part) (targeted : Bool) (t : TableValue) (men : ShelfMen) (side : Side) (a b i score zeroing : ℕ) : Type 0 where
  pub below : i < size_of t.class
  pub tells : TellsMen targeted t.class i (stand_on men a b) side
  pub right : column_score t (column_of part) i ≢ 0 → IsRightAtOf part t i score zeroing

-- the part's entries at the code keep the rules
abbrev pub KeepsPart : Part → Tables → TableValue → ℕ → Type 0
KeepsPart Values tables t i = (metric : Metric) → IsJudged tables t metric i None
KeepsPart Reach tables t i = IsJudgedBy (KeepsReach tables t i) None

-- the part's entries of the shelves from this one on keep the rules, with that side to move: one shelf for each digit of the first man
abbrev pub AreJudged : (part : Part) (tables : Tables) (t : TableValue) (men : ShelfMen) (first : ℕ) (side : Side) → Type 0
AreJudged part tables t men first side = (x y : ℕ) → x < kind_digits men.first.kind → y < kind_digits men.last.kind → KeepsPart part tables t (code_of t.class (number_in t.class (first + x) side y))
