use Rattle.std.proofs.Common.{◌≡◌, ◌≢◌, ◌*◌, ◌-◌, ◌%◌, ◌<◌, ◌∙◌, ℕ, false, Some, None, ap, arith, inl, inr, refl, sym}
use Rattle.egt_check.specs.Prelude.{other_side, TableValue, NoneZeroes, IsDueAlone, IsToldTable, KeepsCode, near_tables}
use Rattle.egt_check.specs.Prelude.{Setup, Side, IsVoid, Zeroes, Mate, Part, Values, Reach, beside, due_in, Tables}
use Rattle.egt_check.specs.Prelude.{Spells, size_of, IsTable, Zeroing, table_at, entry_at, reach_at, HasBytes, score_at}
use Rattle.egt_check.specs.Prelude.{TellsMen, HasStand, ShelfMen, IsRaised, AreGiven, KeepsPart, ThreeMen, column_of}
use Rattle.egt_check.specs.Prelude.{reach_score, AreCodesAlone, IsQuietAlone, stand_alone, AreThreeMen, column_score}
use Rattle.egt_check.proofs.AllJudged.{some_score}
use Rattle.egt_check.proofs.EitherGiven.{same_given}
use Rattle.egt_check.proofs.FirstRule.{void_judged}
use Rattle.egt_check.proofs.NearJudged.{void_kept}
use Rattle.egt_check.proofs.NearReading.{found_in, is_table_in, low_reach, near, near_at, near_scores}
use Rattle.egt_check.proofs.NearScores.{near_raised}
use Rattle.egt_check.proofs.QuietGiven.{alone_whole, low_score, quiet_given}
use Rattle.egt_check.proofs.GreatestScores.{Turning}
use Rattle.egt_table.specs.declared.column.Column.TheVariants as columns
use Rattle.egt_check.proofs.lone_laws.entries_due_to_quiet_steps_are_right.Goals as goal

pub returns : goal.returns
returns c = record { due = due; none = none }
  where
    turning : Turning
    turning = record {
      index = c.codes_tell_turned_men.ensures.index;
      there = c.codes_tell_turned_men.ensures.there;
      or_void = c.a_code_is_an_index_or_void.ensures;
    }

    of_void : (part : Part) (tables : Tables) (t : TableValue) (i : ℕ) → IsToldTable part tables t → i < size_of t.class → IsVoid t.class i → KeepsPart part tables t i
    of_void Values tables t i told below void = λ metric. void_judged tables t i metric void None (told.bytes.void metric i below void)
    of_void Reach tables t i told below void = void_kept tables t i void (let zero = told.bytes.void Mate i below void in let read = near_at t i in omega (arith, zero, read))

    -- an index has a score
    scored : (part : Part) (tables : Tables) (t : TableValue) (i : ℕ) → IsToldTable part tables t → i < size_of t.class → ¬ IsVoid t.class i → column_score t (column_of part) i ≢ 0
    scored Values tables t i told below index zero =
        let known = (told.bytes.alike i below index).mate_known in
        some_score (entry_at t Mate i) known.some known.other known.low (sym (low_score (entry_at t Mate i) known.low) ∙ zero)
    scored Reach tables t i told below index zero =
        let known = (told.bytes.alike i below index).mate_known in
        let same = near_scores t (is_table_in Reach t told.there told.is_table) told.bytes (λ j. c.a_code_is_an_index_or_void.ensures t.class j told.is_table.class_in) i in
        some_score (entry_at (near t) Mate i) known.some known.other known.low (sym (low_score (entry_at (near t) Mate i) known.low) ∙ sym same ∙ zero)

    -- quiet moves are all
    given : (tables : Tables) (t : TableValue) (men : ShelfMen) (side : Side) (s : ℕ) (p : Setup) (g z : ℕ) → IsTable t → tables t.class ≡ Some t → HasBytes t → HasStand t.class false (stand_alone men s) side false p → NoneZeroes men side s
        → IsRaised 0 (AreCodesAlone t.class men side s) (score_at t Mate) g → IsRaised 0 (AreCodesAlone t.class men side s) (score_at t Zeroing) z → AreGiven tables p (λ m. Unit {0}) g z
    given tables t men side s p g z is_table found bytes has quiet by_mate by_zeroing =
        let law = c.quiet_moves_of_three_men_are_quiet_steps.ensures in
        same_given tables p (λ m. Unit {0}) (λ m. ¬ Zeroes p m) g z
        (quiet_given c.facts.ensures turning tables t is_table found bytes (other_side side) p (IsQuietAlone men side s) (alone_whole men side s p has.stood.all)
        (λ q m. law.goes t.class men side false s p q m is_table.class_in has) (λ q stand. law.comes t.class men side false s p q stand is_table.class_in has) g z by_mate by_zeroing)
        (λ q m leads any. law.quiet t.class men side false s p q m is_table.class_in has quiet leads) (λ m keeps. tt)

    of_index : (part : Part) (tables : Tables) (t : TableValue) (men : ShelfMen) (side : Side) (s i score : ℕ) → IsToldTable part tables t → i < size_of t.class → (p : Setup) → Spells t.class i p → ¬ IsVoid t.class i
        → HasStand t.class false (stand_alone men s) side false p → NoneZeroes men side s → score ≢ 0 → IsRaised 0 (AreCodesAlone t.class men side s) (column_score t (column_of part)) score
        → column_score t (column_of part) i ≡ due_in part score → (part ≡ Values → (z : ℕ) × IsRaised 0 (AreCodesAlone t.class men side s) (score_at t Zeroing) z × (score_at t Zeroing i ≡ due_in part z)) → KeepsPart part tables t i
    of_index Values tables t men side s i score told below p spells index has quiet some raised due clock =
        let alike = told.bytes.alike i below index in
        let (z, z_raised, z_due) = clock refl in
        c.due_bytes_are_right.ensures.due tables t i p score z spells index alike (given tables t men side s p score z told.is_table told.found told.bytes has quiet raised z_raised) some
        (sym (low_score (entry_at t Mate i) alike.mate_known.low) ∙ due) (sym (low_score (entry_at t Zeroing i) alike.zeroing_known.low) ∙ z_due)
    of_index Reach tables t men side s i score told below p spells index has quiet some raised due clock =
        let is_near = is_table_in Reach t told.there told.is_table in
        let e = reach_at t i in
        let low : e < 128 = low_reach t is_near told.bytes (λ j. c.a_code_is_an_index_or_void.ensures t.class j told.is_table.class_in) i in
        let read = near_at t i in
        let there : e ≢ 0 = λ zero. (told.bytes.alike i below index).mate_known.some (let is : 2 * e - 1 ≡ 0 = omega (arith, zero) in read ∙ is) in
        let by_near = near_raised c.a_code_is_an_index_or_void.ensures t 0 score (AreCodesAlone t.class men side s) is_near told.bytes raised in
        let same : e % 256 ≡ e = omega (arith, low) in
        c.due_reaches_are_right.ensures.due tables t i p score score spells index there low
        (given (near_tables tables) (near t) men side s p score score is_near (found_in Reach tables t told.there told.found) told.bytes has quiet by_near by_near) some (sym (ap reach_score same) ∙ due)

    due : (three : ThreeMen) (side : Side) (s i : ℕ) → AreThreeMen three → i < size_of three.table.now.class → TellsMen false three.table.now.class i (stand_alone three.men s) side → NoneZeroes three.men side s
        → IsDueAlone three (column_of three.part) side s i → (three.part ≡ Values → IsDueAlone three columns.Zeroing side s i) → KeepsCode three i
    due three side s i are below tells quiet d clock =
        let t = three.table.now in
        let class_in = are.told.is_table.class_in in
        let tables = beside (table_at three.library.now) t in
        elim (c.a_code_is_an_index_or_void.ensures t.class i class_in) [
          | inl (p, spells, index) ↦
              let settled = c.numbers_stand_for_codes.ensures.indexes_are_settled t.class i p p spells.admissible index spells in
              let has = c.codes_tell_their_men.ensures false t.class i p (stand_alone three.men s) side class_in spells settled tells in
              of_index three.part tables t three.men side s i d.score are.told below p spells (λ void. void p spells.admissible index) has quiet d.some d.raised d.due (λ values. let z = clock values in (z.score, z.raised, z.due))
          | inr void ↦ of_void three.part tables t i are.told below void
        ]

    none : (three : ThreeMen) (i : ℕ) → AreThreeMen three → i < size_of three.table.now.class → column_score three.table.now (column_of three.part) i ≡ 0 → KeepsCode three i
    none three i are below zero =
        let t = three.table.now in
        let tables = beside (table_at three.library.now) t in
        elim (c.a_code_is_an_index_or_void.ensures t.class i are.told.is_table.class_in) [
          | inl spelled ↦ absurd (scored three.part tables t i are.told below (λ void. void spelled.0 spelled.1.admissible spelled.2) zero)
          | inr void ↦ of_void three.part tables t i are.told below void
        ]
