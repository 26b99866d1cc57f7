-- Entries that are due to the greatest scores of all moves stay so when entries of other kings are put that no move leads to.
use Rattle.std.proofs.Common.{◌≡◌, ℕ, ◌+◌, ◌<◌, Bool, true, false, refl, sym, ap, ◌∙◌, inl, inr, subst, slice_index}
use Rattle.egt_sweep.specs.FillPrelude.{Side, Spells, code_of, kind_less, number_in, size_of, TellsMen, ShelfMen, TableValue}
use Rattle.egt_sweep.specs.FillPrelude.{entries_of, Column, near_entry, stand_on, column_of, IsRightLane, IsRightAtOf}
use Rattle.egt_sweep.specs.FillPrelude.{IsRightEnd, IsRightReachEnd, column_score, Children, FourMenTables, Part, Values, Reach}
use Rattle.egt_sweep.specs.FillPrelude.{IsMended, IsOfKings, ReadsKings, AreAllDue, AreDue, AreScoresIn}
use Rattle.egt_table.specs.declared.column.Column.TheVariants as columns
use Rattle.egt_sweep.proofs.KeptThrough.{score_stays}
use Rattle.egt_sweep.proofs.ScoresThrough.{scores_stay}
use Rattle.egt_sweep.proofs.ToldOnce.{kings_told, side_told}

module _ (part : Part) (white black : ℕ) (s : Side) (old new : TableValue) (mended : IsMended part white black s old new) where
  -- ---- a code of other kings

  module _ (i : ℕ) (other : ¬ IsOfKings old.class white black s i) where
    entry_stays : (column : Column) → slice_index (entries_of column new) i ≡ slice_index (entries_of column old) i
    entry_stays column = elim (mended.same column i) [
      | inl same ↦ same
      | inr of ↦ absurd (other of)
    ]

    end_stays : IsRightEnd old i → IsRightEnd new i
    end_stays is p spells = let end = is p (subst (λ c. Spells c i p) mended.class spells) in (end.0, end.1, entry_stays columns.Mate ∙ end.2, entry_stays columns.Zeroing ∙ end.3)

    reach_end_stays : IsRightReachEnd old i → IsRightReachEnd new i
    reach_end_stays is p spells = let end = is p (subst (λ c. Spells c i p) mended.class spells) in (end.0, end.1, ap near_entry (entry_stays columns.Reach) ∙ end.2)

    score_is : (column : Column) (score : ℕ) → column_score old column i ≡ score → column_score new column i ≡ score
    score_is column score is = score_stays part white black s old new mended column i other ∙ is

    right_stays : (judged : Part) (score zeroing : ℕ) → IsRightAtOf judged old i score zeroing → IsRightAtOf judged new i score zeroing
    right_stays Values score zeroing is = record {
      due = λ some. let due = is.due some in (score_is columns.Mate _ due.0, score_is columns.Zeroing _ due.1);
      end = λ none. end_stays (is.end none);
    }
    right_stays Reach score zeroing is = record {
      due = λ some. score_is columns.Reach _ (is.due some);
      end = λ none. reach_end_stays (is.end none);
    }

  -- ---- lanes of men of other kings

  module _ (men : ShelfMen) (side : Side) (other : ¬ ((men.white ≡ white) × (men.black ≡ black) × (side ≡ s))) where
    other_code : (targeted : Bool) (a b i : ℕ) → TellsMen targeted old.class i (stand_on men a b) side → ¬ IsOfKings old.class white black s i
    other_code targeted a b i tells of =
        let kings = kings_told old.class i targeted of.targeted (stand_on men a b) of.stand side s tells of.tells in
        other (kings.0 ∙ of.white_is, kings.1 ∙ of.black_is, side_told old.class i targeted of.targeted (stand_on men a b) of.stand side s tells of.tells)

    lane_stays : (targeted : Bool) (a b i score zeroing : ℕ) → IsRightLane part targeted old men side a b i score zeroing → IsRightLane part targeted new men side a b i score zeroing
    lane_stays targeted a b i score zeroing lane = record {
      below = subst (λ c. i < size_of c) (sym mended.class) lane.below;
      tells = subst (λ c. TellsMen targeted c i (stand_on men a b) side) (sym mended.class) lane.tells;
      right = λ some. right_stays i apart part score zeroing (lane.right (λ none. some (score_is i apart (column_of part) 0 none)));
    }
      where
        apart : ¬ IsOfKings old.class white black s i
        apart = other_code targeted a b i lane.tells

  pub scores_in_stay : (targeted : Bool) (children : Children) (men : ShelfMen) (side : Side) → ¬ ReadsKings old.class men side white black s
      → (a b score zeroing : ℕ) → AreScoresIn part targeted old children men side a b score zeroing → AreScoresIn part targeted new children men side a b score zeroing
  scores_in_stay targeted children men side unread a b score zeroing are four own_is children_is =
      let before : FourMenTables = record { own = old; children = four.children } in
      scores_stay part white black s before four refl (subst (λ t. IsMended part white black s old t) (sym own_is) mended) targeted men side unread a b score zeroing (are before refl children_is)

  -- ---- shelves of men whose moves lead to none of the entries that were put

  pub due_stays : old.class < 36 → (targeted : Bool) (children : Children) (men : ShelfMen) (first : ℕ) (side : Side) → ¬ ReadsKings old.class men side white black s
      → ¬ ((men.white ≡ white) × (men.black ≡ black) × (side ≡ s)) → AreDue part targeted old children men first side → AreDue part targeted new children men first side
  due_stays below targeted children men first side unread other due x y x_in y_in =
      let is = due x y x_in y_in in
      let a = x + kind_less men.first.kind in
      let b = y + kind_less men.last.kind in (
        is.0,
        is.1,
        subst (λ c. IsRightLane part targeted new men side a b (code_of c (number_in c (first + x) side y)) is.0 is.1) (sym mended.class)
            (lane_stays men side other targeted a b (code_of old.class (number_in old.class (first + x) side y)) is.0 is.1 is.2),
        scores_in_stay targeted children men side unread a b is.0 is.1 is.3,
      )

  pub all_due_stay : old.class < 36 → (children : Children) (men : ShelfMen) (first half : ℕ) (side : Side) → ¬ ReadsKings old.class men side white black s
      → ¬ ((men.white ≡ white) × (men.black ≡ black) × (side ≡ s)) → AreAllDue part old children men first half side → AreAllDue part new children men first half side
  all_due_stay below children men first half side unread other due = record {
    plain = due_stays below false children men first side unread other due.plain;
    targeted = λ has. due_stays below true children men (first + half) side unread other (due.targeted has);
  }
