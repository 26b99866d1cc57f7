use Rattle.std.proofs.Common.{◌≡◌, ◌≢◌, ◌*◌, ◌-◌, ◌%◌, ◌<◌, ◌∙◌, ℕ, Bool, ap, arith, inl, inr, sym}
use Rattle.egt_check.specs.Prelude.{cases_eq, Setup, K, Side, Spells, IsIndex, IsVoid, ShelfMen, byte_score}
use Rattle.egt_check.specs.Prelude.{reach_score, FourMenTables, Mate, Part, Values, Reach, stand_on, AreTablesOf, near_tables}
use Rattle.egt_check.specs.Prelude.{four_in, tables_in, AreAllReachScores, AreAllScoresOf, IsRightLane, KeepsPart}
use Rattle.egt_check.specs.Prelude.{Tables, entry_at, reach_at, column_score}
use Rattle.egt_table.specs.declared.column.Column.TheVariants as columns
use Rattle.egt_check.proofs.AllJudged.{Says, all_judged, some_score}
use Rattle.egt_check.proofs.NearJudged.{void_kept}
use Rattle.egt_check.proofs.NearReading.{low_reach, near, near_at}
use Rattle.egt_check.proofs.part_laws.entries_due_to_all_moves_are_right.Goals as goal

-- the score of a low entry
low_column : (e : ℕ) → e < 128 → byte_score (2 * (e % 256) - 1) ≡ reach_score e
low_column e low = let same : e % 256 ≡ e = omega (arith, low) in ap reach_score same

pub returns : goal.returns
returns c = by_part
  where
    by_part : (part : Part) (tables : Tables) (four : FourMenTables) (men : ShelfMen) (side : Side) (targeted : Bool) (a b i score zeroing : ℕ) → AreTablesOf (tables_in part tables) (four_in part four) men → men.first.kind ≢ K → men.last.kind ≢ K
        → IsRightLane part targeted four.own men side a b i score zeroing → AreAllScoresOf part targeted four men side a b score zeroing → KeepsPart part tables four.own i
    by_part Values tables four men side targeted a b i mate zeroing are one last lane scores =
        let class_in = are.is_table.class_in in
        let k = four.own.class in
        let says : Says tables four men side targeted a b = record {
          or_void = λ j. c.a_code_is_an_index_or_void.ensures k j class_in;
          settled = λ j p ok index spells. c.numbers_stand_for_codes.ensures.indexes_are_settled k j p p ok index spells;
          stands = λ j p spells settled told. c.codes_tell_their_men.ensures targeted k j p (stand_on men a b) side class_in spells settled told;
          given = λ p g z has s. c.all_scores_give_all_moves.ensures tables four men side targeted a b p g z are one last has s;
          due = λ j p g z. c.due_bytes_are_right.ensures.due tables four.own j p g z;
          none = λ p g z. c.due_bytes_are_right.ensures.none tables p g z;
          end = λ j p x. c.due_bytes_are_right.ensures.end tables four.own j p x;
        } in
        all_judged tables four men side targeted a b says are i lane.below mate zeroing lane.tells scores lane.right
    by_part Reach tables four men side targeted a b i reach zeroing are one last lane scores = elim (c.a_code_is_an_index_or_void.ensures four.own.class i are.is_table.class_in) [
      | inl spelled ↦ of_index tables four men side targeted a b i reach zeroing are one last lane scores spelled.0 spelled.1 spelled.2
      | inr void ↦ void_kept tables four.own i void (let none = are.bytes.void Mate i lane.below void in let read = near_at four.own i in omega (arith, none, read))
    ]
      where
        of_index : (tables : Tables) (four : FourMenTables) (men : ShelfMen) (side : Side) (targeted : Bool) (a b i reach zeroing : ℕ) → AreTablesOf (near_tables tables) (four_in Reach four) men → men.first.kind ≢ K → men.last.kind ≢ K
            → IsRightLane Reach targeted four.own men side a b i reach zeroing → AreAllReachScores targeted four men side a b reach → (p : Setup) → Spells four.own.class i p → IsIndex four.own.class p i → KeepsPart Reach tables four.own i
        of_index tables four men side targeted a b i reach zeroing are one last lane scores p spells index =
            let own = four.own in
            let e = reach_at own i in
            let class_in = are.is_table.class_in in
            let not_void : ¬ IsVoid own.class i = λ void. void p spells.admissible index in
            let known = (are.bytes.alike i lane.below not_void).mate_known in
            let read = near_at own i in
            let low : e < 128 = low_reach own are.is_table are.bytes (λ j. c.a_code_is_an_index_or_void.ensures own.class j class_in) i in
            let some : e ≢ 0 = λ none. known.some (let is : 2 * e - 1 ≡ 0 = omega (arith, none) in read ∙ is) in
            let score : column_score own columns.Reach i ≡ reach_score e = low_column e low in
            let there : column_score own columns.Reach i ≢ 0 = λ none. some_score (entry_at (near own) Mate i) known.some known.other known.low (ap byte_score read ∙ sym score ∙ none) in
            let judged = lane.right there in
            let has = c.codes_tell_their_men.ensures targeted own.class i p (stand_on men a b) side class_in spells (c.numbers_stand_for_codes.ensures.indexes_are_settled own.class i p p spells.admissible index spells) lane.tells in
            let given = c.all_reach_scores_give_all_moves.ensures tables four men side targeted a b p reach are one last has scores in
            elim (cases_eq reach 0) [
              | inl none ↦
                  let (x, at_end, is) = judged.end none p spells in
                  c.due_reaches_are_right.ensures.end tables own i p x spells not_void (c.due_bytes_are_right.ensures.none (near_tables tables) p reach given.0 spells.admissible given.1 none) at_end is
              | inr can ↦ c.due_reaches_are_right.ensures.due tables own i p reach given.0 spells not_void some low given.1 can (sym score ∙ judged.due can)
            ]
