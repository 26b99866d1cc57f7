-- Scores that are put, and what they tell.
use Rattle.std.proofs.Common.{◌≡◌, ◌≢◌, ◌∙◌, ◌⊎◌, ℕ, ◌+◌, ◌<◌, List, true, Option, Some, None, length, map, slice_index}
use Rattle.std.proofs.Common.{Fits, w8, arith, refl, sym, ap, subst, inl, inr}
use Rattle.egt_check.specs.Prelude.{Each1-get_or, false≢true, nat_tests, Has, Kind, Side, SquareSet, code_of}
use Rattle.egt_check.specs.Prelude.{kind_digits, kind_less, number_in, size_of, ShelfMen, zeroing_score, HasColumn}
use Rattle.egt_check.specs.Prelude.{TableValue, entries_of, Column, IsShelfRow, square_in, AreAlike, Inside, Part}
use Rattle.egt_check.specs.Prelude.{AreFound, AreTold, IsNearScore, IsPutIn, IsToldAt, IsValueScore, TellColumn}
use Rattle.egt_check.specs.Prelude.{TellsEntry, near_told, table_told, told, value_told, IsPut, CodeScores, IsLaneIn}
use lib.Lanes.{Each1}
use Rattle.egt_table.specs.declared.column.Column.TheVariants.{Mate, Zeroing, Reach}
use Rattle.egt_check.specs.declared.part.Part.TheVariants as parts
use Rattle.egt_check.proofs.FoundTold.{mate_score, near_score, told_at, told_none, zeroing_score as clock_score}

-- ---- scores of entries

-- a lane of a row
lane_in : (row : List ℕ) (kind : Kind) (digit : ℕ) → length row ≡ 64 → Each1 (Fits w8) row → digit < kind_digits kind → slice_index row (digit + kind_less kind) < 256
lane_in row kind digit long fits below =
    let s_in = square_in kind digit below in
    (Each1-get_or (Fits w8) row (digit + kind_less kind) 0 (omega (arith, long, s_in)) fits).fits

value_tells : (b : ℕ) → b < 256 → IsValueScore b → TellsEntry Mate b
value_tells b b_in is = grind (arith, nat_tests)

near_tells : (b : ℕ) → b < 256 → IsNearScore b → TellsEntry Reach b
near_tells b b_in is = grind (arith, nat_tests)

near_known : (b : ℕ) → b < 256 → IsNearScore b → (near_told b ≢ 0) × (near_told b < 128)
near_known b b_in is = grind (arith, nat_tests)

value_alike : (a b : ℕ) → a < 256 → b < 256 → IsValueScore a → IsValueScore b → zeroing_score a ≡ zeroing_score b → AreAlike (value_told a) (value_told b)
value_alike a b a_in b_in a_is b_is same = grind (arith, nat_tests)

-- ---- scores that were put

-- the row's scores were put at the shelf's codes with that side to move and the last man on one of these squares
pub record IsRowPut (men : ShelfMen) (shelf : ℕ) (side : Side) (lanes : SquareSet) (row : List ℕ) (old new : CodeScores) : Type 0 where
  pub class : new.class ≡ old.class
  pub long : length new.scores ≡ size_of old.class
  pub put : (digit : ℕ) → digit < kind_digits men.last.kind → Has lanes (digit + kind_less men.last.kind)
      → slice_index new.scores (code_of old.class (number_in old.class shelf side digit)) ≡ slice_index row (digit + kind_less men.last.kind)
  pub others : (code : ℕ) → (slice_index new.scores code ≡ slice_index old.scores code) ⊎ IsLaneIn old.class men shelf side lanes code

module _ (column : Column) (c shelf : ℕ) (men : ShelfMen) (side : Side) (lanes : SquareSet) (old new : CodeScores) (row : List ℕ) (tell : TellColumn column c old) (is : IsRowPut men shelf side lanes row old new)
    (tells : (digit : ℕ) → digit < kind_digits men.last.kind → Has lanes (digit + kind_less men.last.kind) → TellsEntry column (slice_index row (digit + kind_less men.last.kind))) where
  still_tell : TellColumn column c new
  still_tell = record {
    class_is = is.class ∙ tell.class_is;
    long = is.long ∙ ap (λ n. size_of n) tell.class_is;
    tell = λ code. elim (is.others code) [
      | inl same ↦ subst (TellsEntry column) (sym same) (tell.tell code)
      | inr lane ↦ subst (TellsEntry column) (sym (ap (slice_index new.scores) lane.3 ∙ is.put lane.0 lane.1 lane.2)) (tells lane.0 lane.1 lane.2)
    ];
  }

  same_told : (code : ℕ) → (slice_index (map (told column) new.scores) code ≡ slice_index (map (told column) old.scores) code) ⊎ IsLaneIn c men shelf side lanes code
  same_told code = grind (arith, told_at, told_none, told)

  put_told : (digit : ℕ) → digit < kind_digits men.last.kind → Has lanes (digit + kind_less men.last.kind) → slice_index new.scores (code_of c (number_in c shelf side digit)) ≡ slice_index row (digit + kind_less men.last.kind)
  put_told digit below has = subst (λ n. slice_index new.scores (code_of n (number_in n shelf side digit)) ≡ slice_index row (digit + kind_less men.last.kind)) tell.class_is (is.put digit below has)

module _ (At : ℕ → Type 0) (t : TableValue) (old_scores old_clocks scores clocks : CodeScores)
    (mate : (code : ℕ) → (slice_index (map value_told scores.scores) code ≡ slice_index (map value_told old_scores.scores) code) ⊎ At code)
    (zeroing : (code : ℕ) → (slice_index (map value_told clocks.scores) code ≡ slice_index (map value_told old_clocks.scores) code) ⊎ At code) where
  values_same : (column : Column) (code : ℕ) → (slice_index (entries_of column (table_told t scores (Some clocks))) code ≡ slice_index (entries_of column (table_told t old_scores (Some old_clocks))) code) ⊎ At code
  values_same column code = grind arith

  values_there : (column : Column) → HasColumn column (table_told t old_scores (Some old_clocks)) → HasColumn column (table_told t scores (Some clocks))
  values_there column has = grind arith

  values_put_in : IsPutIn parts.Values At (table_told t old_scores (Some old_clocks)) (table_told t scores (Some clocks))
  values_put_in = record { class = refl; there = values_there; same = values_same; mate = λ is. cc; zeroing = λ is. cc; reach = λ is. refl }

module _ (At : ℕ → Type 0) (t : TableValue) (old_scores scores : CodeScores)
    (near : (code : ℕ) → (slice_index (map near_told scores.scores) code ≡ slice_index (map near_told old_scores.scores) code) ⊎ At code) where
  near_same : (column : Column) (code : ℕ) → (slice_index (entries_of column (table_told t scores None)) code ≡ slice_index (entries_of column (table_told t old_scores None)) code) ⊎ At code
  near_same column code = grind arith

  near_there : (column : Column) → HasColumn column (table_told t old_scores None) → HasColumn column (table_told t scores None)
  near_there column has = grind arith

  near_put_in : IsPutIn parts.Reach At (table_told t old_scores None) (table_told t scores None)
  near_put_in = record { class = refl; there = near_there; same = near_same; mate = λ is. refl; zeroing = λ is. refl; reach = λ is. cc }

-- what are put are told
values_told_at : (t : TableValue) (scores clocks : CodeScores) (code score clock : ℕ) → TellColumn Mate t.class scores → TellColumn Zeroing t.class clocks → slice_index scores.scores code ≡ score → slice_index clocks.scores code ≡ clock
    → score < 256 → clock < 256 → AreTold parts.Values score clock → IsToldAt parts.Values (table_told t scores (Some clocks)) code score clock
values_told_at t scores clocks code score clock tell also is clock_is score_in clock_in told_both = (
  mate_score t scores clocks tell code ∙ is,
  clock_score t scores clocks also code ∙ clock_is,
  subst (λ n. AreAlike n (slice_index (map value_told clocks.scores) code)) (sym (told_at Mate scores.scores code refl ∙ ap value_told is))
      (subst (λ n. AreAlike (value_told score) n) (sym (told_at Zeroing clocks.scores code refl ∙ ap value_told clock_is))
      (value_alike score clock score_in clock_in told_both.0 told_both.1 told_both.2)),
)

near_told_at : (t : TableValue) (scores : CodeScores) (code score clock : ℕ) → TellColumn Reach t.class scores → slice_index scores.scores code ≡ score
    → score < 256 → AreTold parts.Reach score clock → IsToldAt parts.Reach (table_told t scores None) code score clock
near_told_at t scores code score clock tell is score_in told_near =
    let entry : slice_index (map near_told scores.scores) code ≡ near_told score = told_at Reach scores.scores code refl ∙ ap near_told is in
    let known = near_known score score_in told_near in
    (near_score t scores scores tell code ∙ is, (λ none. known.0 (sym entry ∙ none)), subst (λ n. n < 128) (sym entry) known.1)

-- ---- both

module _ (men : ShelfMen) (shelf : ℕ) (side : Side) (lanes : SquareSet) (own first second : List ℕ) (t old : TableValue) (scores : CodeScores)
    (fits : (length first ≡ 64) × Each1 (Fits w8) first) (also : (length second ≡ 64) × Each1 (Fits w8) second) (read : IsShelfRow scores.class (slice_index scores.scores) men shelf side own) where
  -- what is put in the table with these clocks
  abbrev PutsIn : Part → Option CodeScores → Inside → Type 0
  PutsIn part o f = table_told t scores o ≡ old → AreFound t scores o → ((s : ℕ) → s < 64 → Has lanes s → (slice_index own s ≢ 0) × AreTold part (slice_index first s) (slice_index second s))
      → (new : CodeScores) → IsRowPut men shelf side lanes first f.scores new → AreFound f.table new f.clocks × IsPut part men shelf side lanes first second old (table_told f.table new f.clocks) true

  values_in : (clocks new_clocks : CodeScores) → IsRowPut men shelf side lanes second clocks new_clocks → PutsIn parts.Values (Some clocks) (record { table = t; scores = scores; clocks = Some new_clocks })
  values_in clocks new_clocks put_clocks view are ok new put =
      let kind = men.last.kind in
      let less = kind_less kind in
      let lane = λ (digit : ℕ) (below : digit < kind_digits kind). ok (digit + less) (square_in kind digit below) in
      let first_in = λ (digit : ℕ) (below : digit < kind_digits kind). lane_in first kind digit fits.0 fits.1 below in
      let second_in = λ (digit : ℕ) (below : digit < kind_digits kind). lane_in second kind digit also.0 also.1 below in
      let first_tells = λ (digit : ℕ) (below : digit < kind_digits kind) (has : Has lanes (digit + less)). value_tells (slice_index first (digit + less)) (first_in digit below) (lane digit below has).1.0 in
      let second_tells = λ (digit : ℕ) (below : digit < kind_digits kind) (has : Has lanes (digit + less)). value_tells (slice_index second (digit + less)) (second_in digit below) (lane digit below has).1.1 in
      let tell = still_tell Mate t.class shelf men side lanes scores new first are.1 put first_tells in
      let tell_clocks = still_tell Zeroing t.class shelf men side lanes clocks new_clocks second are.2 put_clocks second_tells in (
        (are.0, tell, tell_clocks),
        subst (λ (u : TableValue). IsPut parts.Values men shelf side lanes first second u (table_told t new (Some new_clocks)) true) view (record {
          put = values_put_in (IsLaneIn t.class men shelf side lanes) t scores clocks new new_clocks (same_told Mate t.class shelf men side lanes scores new first are.1 put first_tells) (same_told Zeroing t.class shelf men side lanes clocks new_clocks second are.2 put_clocks second_tells);
          kept = λ none. absurd (false≢true (sym none));
          indexes = λ is digit below has none. (lane digit below has).0
              (read.digits digit below ∙ ap (λ n. slice_index scores.scores (code_of n (number_in n shelf side digit))) are.1.class_is ∙ sym (mate_score t scores clocks are.1 (code_of t.class (number_in t.class shelf side digit))) ∙ none);
          told = λ is digit below has. values_told_at t new new_clocks (code_of t.class (number_in t.class shelf side digit)) (slice_index first (digit + less)) (slice_index second (digit + less)) tell tell_clocks
              (put_told Mate t.class shelf men side lanes scores new first are.1 put first_tells digit below has) (put_told Zeroing t.class shelf men side lanes clocks new_clocks second are.2 put_clocks second_tells digit below has)
              (first_in digit below) (second_in digit below) (lane digit below has).1;
        }),
      )

  near_in : PutsIn parts.Reach None (record { table = t; scores = scores; clocks = None })
  near_in view are ok new put =
      let kind = men.last.kind in
      let less = kind_less kind in
      let lane = λ (digit : ℕ) (below : digit < kind_digits kind). ok (digit + less) (square_in kind digit below) in
      let first_in = λ (digit : ℕ) (below : digit < kind_digits kind). lane_in first kind digit fits.0 fits.1 below in
      let tells = λ (digit : ℕ) (below : digit < kind_digits kind) (has : Has lanes (digit + less)). near_tells (slice_index first (digit + less)) (first_in digit below) (lane digit below has).1 in
      let tell = still_tell Reach t.class shelf men side lanes scores new first are.1 put tells in (
        (are.0, tell, are.2),
        subst (λ (u : TableValue). IsPut parts.Reach men shelf side lanes first second u (table_told t new None) true) view (record {
          put = near_put_in (IsLaneIn t.class men shelf side lanes) t scores new (same_told Reach t.class shelf men side lanes scores new first are.1 put tells);
          kept = λ none. absurd (false≢true (sym none));
          indexes = λ is digit below has none. (lane digit below has).0
              (read.digits digit below ∙ ap (λ n. slice_index scores.scores (code_of n (number_in n shelf side digit))) are.1.class_is ∙ sym (near_score t scores scores are.1 (code_of t.class (number_in t.class shelf side digit))) ∙ none);
          told = λ is digit below has. near_told_at t new (code_of t.class (number_in t.class shelf side digit)) (slice_index first (digit + less)) (slice_index second (digit + less)) tell
              (put_told Reach t.class shelf men side lanes scores new first are.1 put tells digit below has) (first_in digit below) (lane digit below has).1;
        }),
      )

  pub values_put : (part : Part) (o : Option CodeScores) (f : Inside) (clocks new_clocks : CodeScores) → part ≡ parts.Values → o ≡ Some clocks → f ≡ record { table = t; scores = scores; clocks = Some new_clocks } → IsRowPut men shelf side lanes second clocks new_clocks → PutsIn part o f
  values_put part o f clocks new_clocks values some is put_clocks =
      subst (λ p. PutsIn p o f) (sym values) (subst (λ o. PutsIn parts.Values o f) (sym some) (subst (PutsIn parts.Values (Some clocks)) (sym is) (values_in clocks new_clocks put_clocks)))

  pub near_put : (part : Part) (o : Option CodeScores) (f : Inside) → part ≡ parts.Reach → o ≡ None → f ≡ record { table = t; scores = scores; clocks = o } → PutsIn part o f
  near_put part o f reach none is =
      subst (λ p. PutsIn p o f) (sym reach) (subst (PutsIn parts.Reach o) (sym is) (subst (λ o. PutsIn parts.Reach o (record { table = t; scores = scores; clocks = o })) (sym none) near_in))
