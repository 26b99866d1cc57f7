-- Tables of classes with one piece beside the kings, with entries put anew.
use Rattle.std.proofs.Common.{◌≡◌, ◌≢◌, ◌∙◌, ℕ, ◌+◌, ◌<◌, ◌≤◌, ◌⊎◌, List, [], ◌∷◌, arith, ap, inl, inr, refl, subst, sym, slice_index}
use Rattle.egt_sweep.specs.FillPrelude.{cases_eq, cases_lt, HasChildren, HasReachChildren, HasColumn, IsTable, TableValue, entries_of}
use Rattle.egt_sweep.specs.FillPrelude.{Column, IsPutIn, AreAlike, IsKnown, column_of, table_in, HasBytes, Mate, Part}
use Rattle.egt_sweep.specs.FillPrelude.{IsLoneFilling, IsLonePiece, IsMendedAt, LoneFilling, MayJudge, Tables, beside_own}
use Rattle.egt_sweep.specs.FillPrelude.{reach_at, table_at}
use Rattle.egt_sweep.proofs.LanesPut.{known_alike, mended_of, none_there, reach_bytes, values_bytes}
use Rattle.egt_sweep.proofs.PutEntries.{widened}
use Rattle.egt_table.specs.declared.column.Column.TheVariants as columns
use Rattle.egt_check.specs.declared.part.Part.TheVariants as parts

abbrev pub Anywhere : ℕ → Type 0
Anywhere i = Unit {0}

-- a column's entry at the code was put
pub record IsOnePut (column : Column) (code entry : ℕ) (old new : TableValue) : Type 0 where
  pub class : new.class ≡ old.class
  pub there : (other : Column) → HasColumn other old → HasColumn other new
  pub elsewhere : (other : Column) → other ≢ column → entries_of other new ≡ entries_of other old
  pub reach : column ≢ columns.Reach → new.reach ≡ old.reach
  pub here : slice_index (entries_of column new) code ≡ entry
  pub others : (i : ℕ) → i ≢ code → slice_index (entries_of column new) i ≡ slice_index (entries_of column old) i

module _ (column : Column) (code entry : ℕ) (old new : TableValue) where
  pub one_of : new.class ≡ old.class → ((other : Column) → HasColumn other old → HasColumn other new) → ((other : Column) → other ≢ column → entries_of other new ≡ entries_of other old) → (column ≢ columns.Reach → new.reach ≡ old.reach)
      → ((k : ℕ) → k < 1 → slice_index (entries_of column new) (code + k) ≡ slice_index (entry ∷ []) k) → ((i : ℕ) → (i < code) ⊎ (code + 1 ≤ i) → slice_index (entries_of column new) i ≡ slice_index (entries_of column old) i) → IsOnePut column code entry old new
  one_of class there others reach here apart = record {
    class = class;
    there = there;
    elsewhere = others;
    reach = reach;
    here = (let at : code + 0 ≡ code = omega arith in subst (λ n. slice_index (entries_of column new) n ≡ entry) at (here 0 (omega arith)));
    others = λ i other. apart i (elim (cases_lt i code) [ inl low ↦ inl low | inr high ↦ inr (omega (arith, high, other)) ]);
  }

module _ (old mid new : TableValue) (code entry : ℕ) (first : IsOnePut columns.Mate code entry old mid) (second : IsOnePut columns.Zeroing code entry mid new) where
  kept : (column : Column) (i : ℕ) → i ≢ code → slice_index (entries_of column new) i ≡ slice_index (entries_of column old) i
  kept columns.Mate i other = ap (λ (l : List ℕ). slice_index l i) (second.elsewhere columns.Mate (λ e. cc)) ∙ first.others i other
  kept columns.Zeroing i other = second.others i other ∙ ap (λ (l : List ℕ). slice_index l i) (first.elsewhere columns.Zeroing (λ e. cc))
  kept columns.Reach i other = ap (λ (l : List ℕ). slice_index l i) (second.elsewhere columns.Reach (λ e. cc) ∙ first.elsewhere columns.Reach (λ e. cc))

  both_put : IsPutIn parts.Values (λ i. i ≡ code) old new
  both_put = record {
    class = second.class ∙ first.class;
    there = λ column has. second.there column (first.there column has);
    same = λ column i. elim (cases_eq i code) [ inl is ↦ inr is | inr other ↦ inl (kept column i other) ];
    mate = λ is. cc;
    zeroing = λ is. cc;
    reach = λ is. second.reach (λ e. cc) ∙ first.reach (λ e. cc);
  }

  pub values_mended : HasBytes (table_in parts.Values old) → slice_index old.mate code ≢ 0 → IsKnown entry → IsMendedAt parts.Values Anywhere old new
  values_mended bytes some known = widened parts.Values (λ i. i ≡ code) Anywhere old new (mended_of parts.Values (λ i. i ≡ code) old new both_put (values_bytes old new (λ i. i ≡ code) both_put bytes
      (λ i i_in void at. some (subst (λ n. slice_index old.mate n ≡ 0) at (bytes.void Mate i i_in void)))
      (λ i at. subst (λ n. AreAlike (slice_index new.mate n) (slice_index new.zeroing n)) (sym at) (subst (λ n. AreAlike n (slice_index new.zeroing code)) (sym mate_here) (subst (AreAlike entry) (sym second.here) (known_alike entry known)))))) (λ i at. tt)
    where
      mate_here : slice_index new.mate code ≡ entry
      mate_here = ap (λ (l : List ℕ). slice_index l code) (second.elsewhere columns.Mate (λ e. cc)) ∙ first.here

module _ (old new : TableValue) (code entry : ℕ) (put : IsOnePut columns.Reach code entry old new) where
  same_reach : (column : Column) (i : ℕ) → i ≢ code → slice_index (entries_of column new) i ≡ slice_index (entries_of column old) i
  same_reach h0 i other = grind arith

  one_put : IsPutIn parts.Reach (λ i. i ≡ code) old new
  one_put = record {
    class = put.class;
    there = put.there;
    same = λ column i. elim (cases_eq i code) [ inl is ↦ inr is | inr other ↦ inl (same_reach column i other) ];
    mate = λ is. put.elsewhere columns.Mate (λ e. cc);
    zeroing = λ is. put.elsewhere columns.Zeroing (λ e. cc);
    reach = λ is. cc;
  }

  pub reach_mended : HasBytes (table_in parts.Reach old) → reach_at old code ≢ 0 → entry ≢ 0 → entry < 128 → IsMendedAt parts.Reach Anywhere old new
  reach_mended bytes some entry_some low = widened parts.Reach (λ i. i ≡ code) Anywhere old new (mended_of parts.Reach (λ i. i ≡ code) old new one_put (reach_bytes old new (λ i. i ≡ code) one_put bytes
      (λ i i_in void at. some (subst (λ n. reach_at old n ≡ 0) at (none_there old bytes i i_in void)))
      (λ i at. subst (λ n. (reach_at new n ≢ 0) × (reach_at new n < 128)) (sym at) (subst (λ n. (n ≢ 0) × (n < 128)) (sym put.here) (entry_some, low))))) (λ i at. tt)

pub filling_is : (f : LoneFilling) (t : TableValue) → IsTable t → HasColumn (column_of f.part) t → HasBytes (table_in f.part t) → MayJudge f.part (table_at f.library.now) t → IsLonePiece t.class f.man → IsLoneFilling f t
filling_is f t is_table there bytes may piece = record {
  told = record { is_table = is_table; found = beside_own (table_at f.library.now) t t.class refl; there = there; bytes = bytes };
  may = may;
  piece = piece;
}

-- a mended table is still one that is filled
module _ (f : LoneFilling) (old new : TableValue) (mended : IsMendedAt f.part Anywhere old new) where
  may_judge : (part : Part) (tables : Tables) → IsMendedAt part Anywhere old new → MayJudge part tables old → MayJudge part tables new
  may_judge parts.Values tables same may = subst (HasChildren tables) (sym same.class) may
  may_judge parts.Reach tables same may = (same.there columns.Reach may.0, subst (HasChildren tables) (sym same.class) may.1, subst (HasReachChildren tables) (sym same.class) may.2)

  pub still_filling : IsTable new → IsLoneFilling f old → IsLoneFilling f new
  still_filling is_table is = grind (arith, filling_is, column_of, may_judge, table_at)
