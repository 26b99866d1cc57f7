-- A true table with the column of the nearest mates, as its game is solved, is true too.
use Rattle.std.proofs.Common.{◌≡◌, ℕ, ◌<◌, ◌↔◌, Bool, true, false, Option, Some, None, IsSome, not, List, length, refl}
use Rattle.std.proofs.Common.{sym, ap, ◌∙◌}
use Rattle.egt_sweep.specs.Prelude.{false≢true, Setup, IsAdmissible, IsIndex, size_of, Value, chess, HasReach, IsNode}
use Rattle.egt_sweep.specs.Prelude.{AreNears, HasNear, IsShort, near_entry_of, Metric, Mate, Zeroing, Shows, IsAccepted}
use Rattle.egt_sweep.specs.Prelude.{ShowsReach, Tables, HasChildren, HasReachChildren, beside, entry_at, Tells}
use Rattle.egt_sweep.specs.Prelude.{IsTrueReach, IsTrueTable, HasTrueChildren, Column, TableValue, HasColumn, IsTable}
use Rattle.egt_sweep.specs.Prelude.{entries_of, Laws, reach_game}
use Rattle.egt_table.specs.declared.column.Column.TheVariants as columns
use Rattle.egt_sweep.proofs.Linked.{spelled_there, void_is}
use Rattle.egt_sweep.proofs.OutOfClass.{beside_own}
use Rattle.egt_sweep.proofs.Shown.{beside_children, beside_reach}
use Rattle.egt_sweep.proofs.TablesFilled.{RulesTell}

abbrev pub with_nears : TableValue → List ℕ → TableValue
with_nears t nears = record { class = t.class; mate = t.mate; zeroing = t.zeroing; reach = Some nears }

-- what the numbers of the game tell
abbrev pub NearsTell : Tables → ℕ → Type 0
NearsTell tables c = (i : ℕ) (p : Setup) (number : Option ℕ) → IsAdmissible p → IsIndex c p i → HasNear (reach_game tables c) i number → HasReach chess p number

near_shown : (x : ℕ) (number : Option ℕ) → IsShort number → x ≡ near_entry_of number → ShowsReach x number
near_shown x (Some n) short is = (short, is)
near_shown x None short is = (tt, is)

module _ (laws : Laws) (tables : Tables) (t : TableValue) (below : t.class < 36) (nears : List ℕ) (are : AreNears (reach_game tables t.class) nears) (told : NearsTell tables t.class) where
  node : (i : ℕ) (p : Setup) → IsAdmissible p → IsIndex t.class p i → IsNode (reach_game tables t.class) i
  node i p ok is = record { in_range = laws.facts.index_below p t.class i is; not_void = ap not (spelled_there laws t.class i p below ok is) }

  pub joined_reach : IsTrueReach (with_nears t nears)
  joined_reach = record {
    void = λ i lt void. are.voids i lt (ap not (void_is laws t.class i void));
    true = λ p i ok is.
        let near = are.nears i (node i p ok is) in
        (near.0, told i p near.0 ok is near.1, near_shown _ near.0 near.2 near.3);
  }

  void_as_before : (metric : Metric) (i : ℕ) → entry_at t metric i ≡ 0 → entry_at (with_nears t nears) metric i ≡ 0
  void_as_before Mate i e = e
  void_as_before Zeroing i e = e

  true_as_before : (metric : Metric) (p : Setup) (i : ℕ) → (v : Value) × Tells metric p v × Shows (entry_at t metric i) v → (v : Value) × Tells metric p v × Shows (entry_at (with_nears t nears) metric i) v
  true_as_before Mate p i h = h
  true_as_before Zeroing p i h = h

  pub joined_is_true : IsTrueTable t → IsTrueTable (with_nears t nears)
  joined_is_true truth = record {
    void = λ metric i lt void. void_as_before metric i (truth.void metric i lt void);
    true = λ metric p i ok is. true_as_before metric p i (truth.true metric p i ok is);
    reach = λ there. joined_reach;
  }

  sizes : IsTable t → (column : Column) → HasColumn column (with_nears t nears) → length (entries_of column (with_nears t nears)) ≡ size_of t.class
  sizes table columns.Mate there = table.sizes columns.Mate tt
  sizes table columns.Zeroing there = table.sizes columns.Zeroing tt
  sizes table columns.Reach there = are.all

  joined_is_table : IsTable t → IsTable (with_nears t nears)
  joined_is_table table = record { class_in = table.class_in; sizes = sizes table }

  -- and a check beside the tables at hand accepts it
  pub joined_is_accepted : IsTable t → IsTrueTable t → HasChildren tables t.class → HasTrueChildren tables t.class → HasReachChildren tables t.class → RulesTell → IsAccepted tables (with_nears t nears)
  joined_is_accepted table truth children true_children reach_children rules = record {
    children = children;
    reach_children = λ there. reach_children;
    rules = (rules (beside tables (with_nears t nears)) (with_nears t nears) (joined_is_table table) (beside_own tables (with_nears t nears)) (beside_children laws tables (with_nears t nears) below true_children) (λ there. beside_reach laws tables (with_nears t nears) below reach_children)).1 (joined_is_true truth);
  }

-- a column that a test does not find is not there
pub not_there : (o : Option (List ℕ)) (b : Bool) → ((b ≡ true) ↔ IsSome o) → b ≡ false → o ≡ None
not_there None b test false_is = refl
not_there (Some entries) b test false_is = absurd (false≢true (sym false_is ∙ test.1 refl))
