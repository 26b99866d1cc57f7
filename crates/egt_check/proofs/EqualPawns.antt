-- Equal pawns: the advances of the first are those of the last, with their squares exchanged.
use Rattle.std.proofs.Common.{◌≡◌, ℕ, Bool, true, false, ◌∷◌, [], sym, ap, ◌∙◌, inl, inr, subst}
use Rattle.egt_check.specs.Prelude.{option_to_list, has_equal_sides, IsSomeTurnedCodeWith, stand_after, AreAdvanceScores}
use Rattle.egt_check.specs.Prelude.{false≢true, Man, AreLeapCodes, AreStepCodes, men_swapped, column_score, raised_alike}
use Rattle.egt_check.specs.Prelude.{other_side, Side, men_among, swapped, ShelfMen, Stand, TableValue, Column}

-- equal men are told in either order
other_order : (targeted : Bool) (c code : ℕ) (flips : Bool) (stand : Stand) (side : Side) → has_equal_sides c ≡ false → men_among (option_to_list stand.first) ≡ men_among (option_to_list stand.last)
    → IsSomeTurnedCodeWith targeted c code flips stand side → IsSomeTurnedCodeWith targeted c code flips (swapped stand) side
other_order targeted c code flips stand side apart alike some = record {
  turn = some.turn;
  after = some.after;
  seen = elim some.seen [
    | inl own ↦ inl (own.0, elim own.1 [ inl same ↦ inr (same, sym alike) | inr other ↦ inl other.0 ])
    | inr across ↦ absurd (false≢true (sym apart ∙ across.0))
  ];
  is = some.is;
}

-- equal men are the same in either order
pub same_order : (men : ShelfMen) → men.first ≡ men.last → men ≡ men_swapped men
same_order men equal = λ i. record { white = men.white; black = men.black; first = equal i; on = men.on; last = sym equal i }

module _ (column : Column) (own : TableValue) (men : ShelfMen) (apart : has_equal_sides own.class ≡ false) (equal : men.first ≡ men.last) where
  as_first : (targeted : Bool) (code a t : ℕ) (side : Side) → IsSomeTurnedCodeWith targeted own.class code false (stand_after false false men a men.last t) side → IsSomeTurnedCodeWith targeted own.class code false (stand_after true false men a men.last t) side
  as_first targeted code a t side = other_order targeted own.class code false (stand_after false false men a men.last t) side apart (ap (λ (m : Man). m ∷ []) equal)

  as_last : (targeted : Bool) (code a t : ℕ) (side : Side) → IsSomeTurnedCodeWith targeted own.class code false (stand_after true false men a men.last t) side → IsSomeTurnedCodeWith targeted own.class code false (stand_after false false men a men.last t) side
  as_last targeted code a t side = other_order targeted own.class code false (stand_after true false men a men.last t) side apart (ap (λ (m : Man). m ∷ []) (sym equal))

  advanced_as_first : (side : Side) (a b score : ℕ) → AreAdvanceScores column own false men side a b score → AreAdvanceScores column own true men side a b score
  advanced_as_first side a b score s = record {
    stepped = s.stepped;
    leapt = s.leapt;
    stepped_raised = raised_alike 0 s.stepped (AreStepCodes own.class false men side a b) (AreStepCodes own.class true men side a b) (column_score own column) s.stepped_raised
        (λ code h. (h.0, h.1, h.2, as_last false code a h.0 (other_side side) h.3)) (λ code h. (h.0, h.1, h.2, as_first false code a h.0 (other_side side) h.3));
    leapt_raised = raised_alike 0 s.leapt (AreLeapCodes own.class false men side a b) (AreLeapCodes own.class true men side a b) (column_score own column) s.leapt_raised
        (λ code h. (h.0, h.1, h.2, as_last true code a h.0 (other_side side) h.3)) (λ code h. (h.0, h.1, h.2, as_first true code a h.0 (other_side side) h.3));
    is = s.is;
  }

  -- the first one's advances are the last one's
  pub advanced_as_last : (side : Side) (a b score : ℕ) → AreAdvanceScores column own false men side a b score → AreAdvanceScores column own true (men_swapped men) side a b score
  advanced_as_last side a b score s = subst (λ (other : ShelfMen). AreAdvanceScores column own true other side a b score) (same_order men equal) (advanced_as_first side a b score s)
