-- Counts over all entries of a table: how many mate entries show what, the most plies of a win and of a loss, and how many positions are dead.
use Rattle.std.specs.Prelude.{◌≡◌, ℕ, ◌-◌, ◌/◌, ◌%◌, ◌≤◌, ◌<◌, ◌==◌, ◌&&◌, nat_le, Bool, true, false, List, [], ◌∷◌, ◌++◌, length, slice_index, count_by, Option, Some, None, codes, decimal}
use Rattle.egt_class.specs.Name.{name_of}
use Rattle.egt_table.specs.Table.{TableValue}
use Rattle.std.specs.Option.{option_map}
use Rattle.egt_commands.specs.declared.statistics.Statistics.{Statistics}
use Rattle.egt_commands.specs.declared.tally.Shown.{Shown}
use Rattle.egt_commands.specs.declared.tally.Shown.TheVariants.{Void, Draw, Win, Loss}

-- 2 + 2n shows a win in n plies, n from 1 to 32,000, and 3 + 2n a loss in n plies, n from 0 to 32,000; 1 shows a draw, and 0 stands
-- where there is no position
abbrev pub shows : Shown → ℕ → Bool
shows Void x = x == 0
shows Draw x = x == 1
shows Win x = nat_le 4 x && nat_le x 64002 && (x % 2 == 0)
shows Loss x = nat_le 3 x && nat_le x 64003 && (x % 2 == 1)

-- the plies of a win or a loss
abbrev pub plies_of : ℕ → ℕ
plies_of x = x / 2 - 1

-- the most plies of the first n entries that pass, if any does
abbrev pub IsLongest : (ℕ → Bool) → List ℕ → ℕ → Option ℕ → Type 0
IsLongest passes xs n None = (k : ℕ) → k < n → passes (slice_index xs k) ≡ false
IsLongest passes xs n (Some most) =
    ((k : ℕ) × (k < n) × (passes (slice_index xs k) ≡ true) × (most ≡ plies_of (slice_index xs k)))
    × ((k : ℕ) → k < n → passes (slice_index xs k) ≡ true → plies_of (slice_index xs k) ≤ most)

pub record AreStatistics (t : TableValue) (s : Statistics) : Type 0 where
  pub entries : s.entries ≡ length t.mate
  pub void : s.void ≡ count_by (shows Void) t.mate
  pub draws : s.draws ≡ count_by (shows Draw) t.mate
  pub wins : s.wins ≡ count_by (shows Win) t.mate
  pub losses : s.losses ≡ count_by (shows Loss) t.mate
  pub longest_win : IsLongest (shows Win) t.mate (length t.mate) s.longest_win
  pub longest_loss : IsLongest (shows Loss) t.mate (length t.mate) s.longest_loss
  -- a dead position has the entry 1, as a draw has in the mate column
  pub dead : s.dead ≡ option_map (count_by (shows Draw)) t.reach

-- a line of a name and what is told of it; 32 is the space, and 10 the line feed
abbrev pub line_of : List ℕ → List ℕ → List ℕ
line_of name told = name ++ 32 ∷ [] ++ told ++ 10 ∷ []

-- a number, or a hyphen where there is none
abbrev pub number_or_none : Option ℕ → List ℕ
number_or_none None = codes "-"
number_or_none (Some n) = decimal n

abbrev pub lines_of : ℕ → Statistics → List ℕ
lines_of c s =
    line_of (codes "class") (name_of c) ++ line_of (codes "entries") (decimal s.entries) ++ line_of (codes "void") (decimal s.void)
    ++ line_of (codes "draws") (decimal s.draws) ++ line_of (codes "wins") (decimal s.wins) ++ line_of (codes "losses") (decimal s.losses)
    ++ line_of (codes "longest win") (number_or_none s.longest_win) ++ line_of (codes "longest loss") (number_or_none s.longest_loss)
    ++ line_of (codes "dead") (number_or_none s.dead)

-- the text tells the statistics of the table
pub record TellsStatistics (t : TableValue) (text : List ℕ) : Type 0 where
  pub statistics : Statistics
  pub of : AreStatistics t statistics
  pub lines : text ≡ lines_of t.class statistics
