-- The greatest score of the codes of some men, wherever turns take them, is that of the positions with these men.
use Rattle.std.proofs.Common.{◌≡◌, ℕ, ◌%◌, ◌<◌, ◌≤◌, ◌⊎◌, Bool, true, false, length, arith, sym, ap, ◌∙◌, inl, inr}
use Rattle.egt_check.specs.Prelude.{cases_lt, false≢true, get_or_past, AreImages, IsSettled, Setup, IsAdmissible, Side}
use Rattle.egt_check.specs.Prelude.{Spells, IsIndex, IsVoid, SettleAlike, size_of, HasStand, IsFilled, IsSomeTurnedCode}
use Rattle.egt_check.specs.Prelude.{IsSomeTurnedCodeWith, AreOnBoard, Stand, IsRaised, byte_score, IsTable, TableValue}
use Rattle.egt_check.specs.Prelude.{Metric, Mate, Zeroing, Facts, entries_in, entry_at, HasBytes, IsBestOf, IsBestWith}
use Rattle.egt_check.specs.Prelude.{IsScoreWith, score_at}
use Rattle.egt_table.specs.declared.column.Column.TheVariants as columns

-- what codes tell of turned men, by the law of egt_index
pub record Turning : Type 0 where
  pub index : (targeted : Bool) (c i : ℕ) (flips : Bool) (stand : Stand) (side : Side) (q : Setup) → c < 36 → IsFilled stand → HasStand c flips stand side targeted q → IsIndex c q i → IsSomeTurnedCodeWith targeted c i flips stand side
  pub there : (targeted : Bool) (c code : ℕ) (flips : Bool) (stand : Stand) (side : Side) (r : Setup) → c < 36 → AreOnBoard stand → IsSomeTurnedCodeWith targeted c code flips stand side → Spells c code r
      → (targeted ≡ true → IsSettled r) → (q : Setup) × HasStand c flips stand side targeted q × AreImages q r
  pub or_void : (c code : ℕ) → c < 36 → ((p : Setup) × Spells c code p × IsIndex c p code) ⊎ IsVoid c code

-- what an index spells is settled
abbrev pub SpellsSettled : Type 0
SpellsSettled = (c i : ℕ) (p q : Setup) → IsAdmissible p → IsIndex c p i → Spells c i q → IsSettled q

-- there is a man beside the kings where there is a last one, and all are on the board
pub record AreWhole (stand : Stand) : Type 0 where
  pub filled : IsFilled stand
  pub on_board : AreOnBoard stand

pub zero_score : (e : ℕ) → e ≡ 0 → byte_score (e % 256) ≡ 0
zero_score e is = ap (λ x. byte_score (x % 256)) is

module _ (t : TableValue) (metric : Metric) (is_table : IsTable t) (bytes : HasBytes t) where
  sized : (metric : Metric) → length (entries_in metric t) ≡ size_of t.class
  sized Mate = is_table.sizes columns.Mate tt
  sized Zeroing = is_table.sizes columns.Zeroing tt

  -- a void code has no score
  pub void_score : (code : ℕ) → IsVoid t.class code → score_at t metric code ≡ 0
  void_score code void = elim (cases_lt code (size_of t.class)) [
    | inl below ↦ zero_score (entry_at t metric code) (bytes.void metric code below void)
    | inr past ↦ zero_score (entry_at t metric code) (get_or_past (entries_in metric t) code 0 (let size = sized metric in omega arith))
  ]

module _ (facts : Facts) (turning : Turning) (t : TableValue) (metric : Metric) (is_table : IsTable t) (bytes : HasBytes t) where
  -- images have one index
  same_index : (q r : Setup) (i j : ℕ) → IsAdmissible q → IsAdmissible r → AreImages q r → IsIndex t.class q i → IsIndex t.class r j → i ≡ j
  same_index q r i j q_ok r_ok images index other = (facts.like_index q r t.class i j q_ok r_ok index other).1 alike
    where
      alike : SettleAlike q r
      alike =
          let here = facts.settles q in
          let there = facts.settles r in
          record { here = here.0; there = there.0; settles_here = here.1; settles_there = there.1; images = facts.images_settle q r here.0 there.0 q_ok images here.1 there.1 }

  module _ (targeted : Bool) (settled : targeted ≡ true → SpellsSettled) (In : Stand → Type 0) (flips : Bool) (side : Side) (w : ℕ) (whole : (stand : Stand) → In stand → AreWhole stand)
      (raised : IsRaised 0 (λ code. (stand : Stand) × In stand × IsSomeTurnedCodeWith targeted t.class code flips stand side) (score_at t metric) w) where
    above : (stand : Stand) (q : Setup) → In stand → HasStand t.class flips stand side targeted q → (i : ℕ) × IsIndex t.class q i × (score_at t metric i ≤ w)
    above stand q in_stands has =
        let index = facts.some_index q t.class flips is_table.class_in has.admissible has.is_of in
        (index.0, index.1, raised.above index.0 (stand, in_stands, turning.index targeted t.class index.0 flips stand side q is_table.class_in (whole stand in_stands).filled has index.1))

    -- a code with a score is an index, and of a position with these men
    reached_by : (code : ℕ) (stand : Stand) → In stand → IsSomeTurnedCodeWith targeted t.class code flips stand side → w ≡ score_at t metric code → (w ≡ 0) ⊎ IsScoreWith targeted t metric In flips side w
    reached_by code stand in_stands turned is = elim (turning.or_void t.class code is_table.class_in) [
      | inr void ↦ inl (is ∙ void_score t metric is_table bytes code void)
      | inl spelled ↦
          let there = turning.there targeted t.class code flips stand side spelled.0 is_table.class_in (whole stand in_stands).on_board turned spelled.1 (λ some. settled some t.class code spelled.0 spelled.0 spelled.1.admissible spelled.2 spelled.1) in
          let index = facts.some_index there.0 t.class flips is_table.class_in there.1.admissible there.1.is_of in
          inr (record {
            stand = stand;
            in_stands = in_stands;
            position = there.0;
            has = there.1;
            index = index.0;
            is_index = index.1;
            is = is ∙ ap (score_at t metric) (sym (same_index there.0 spelled.0 index.0 code there.1.admissible spelled.1.admissible there.2 index.1 spelled.2));
          })
    ]

    pub best_with : IsBestWith targeted t metric In flips side w
    best_with = record {
      above = above;
      reached = elim raised.reached [ inl none ↦ inl none | inr h ↦ reached_by h.0 h.1.0 h.1.1 h.1.2 h.2 ];
    }

  -- the same of positions without a target
  pub best_of : (In : Stand → Type 0) (flips : Bool) (side : Side) (w : ℕ) → ((stand : Stand) → In stand → AreWhole stand) → IsRaised 0 (λ code. (stand : Stand) × In stand × IsSomeTurnedCode t.class code flips stand side) (score_at t metric) w
      → IsBestOf t metric In flips side w
  best_of = best_with false (λ some. absurd (false≢true some))
