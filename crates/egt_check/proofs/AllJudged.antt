-- Entries that are due to the greatest scores of all moves keep the rules.
use Rattle.std.proofs.Common.{◌≡◌, ◌≢◌, ℕ, ◌<◌, ◌⊎◌, Bool, false, None, arith, sym, ◌∙◌, inl, inr}
use Rattle.egt_check.specs.Prelude.{cases_eq, IsSettled, Setup, IsAdmissible, Side, Spells, IsIndex, IsVoid, size_of}
use Rattle.egt_check.specs.Prelude.{TellsMen, HasStand, ShelfMen, byte_score, due_score, NoMove, chess, TableValue}
use Rattle.egt_check.specs.Prelude.{Metric, Mate, Zeroing, stand_on, AreAlike, AreGiven, AreAllScores, AreTablesOf}
use Rattle.egt_check.specs.Prelude.{IsRightAt, IsJudged, IsAtEnd, Tables, entry_at, score_at, FourMenTables, nat_tests}
use Rattle.egt_check.proofs.FirstRule.{void_judged}
use Rattle.egt_check.proofs.QuietGiven.{low_score}

-- what other laws say of this position
pub record Says (tables : Tables) (four : FourMenTables) (men : ShelfMen) (side : Side) (targeted : Bool) (a b : ℕ) : Type 0 where
  pub or_void : (i : ℕ) → ((p : Setup) × Spells four.own.class i p × IsIndex four.own.class p i) ⊎ IsVoid four.own.class i
  pub settled : (i : ℕ) (p : Setup) → IsAdmissible p → IsIndex four.own.class p i → Spells four.own.class i p → IsSettled p
  pub stands : (i : ℕ) (p : Setup) → Spells four.own.class i p → IsSettled p → TellsMen targeted four.own.class i (stand_on men a b) side → HasStand four.own.class false (stand_on men a b) side targeted p
  pub given : (p : Setup) (mate zeroing : ℕ) → HasStand four.own.class false (stand_on men a b) side targeted p → AreAllScores targeted four men side a b mate zeroing → AreGiven tables p (λ m. Unit {0}) mate zeroing
  pub due : (i : ℕ) (p : Setup) (g z : ℕ) → Spells four.own.class i p → ¬ IsVoid four.own.class i → AreAlike (entry_at four.own Mate i) (entry_at four.own Zeroing i) → AreGiven tables p (λ m. Unit {0}) g z → g ≢ 0
      → byte_score (entry_at four.own Mate i) ≡ due_score g → byte_score (entry_at four.own Zeroing i) ≡ due_score z → (metric : Metric) → IsJudged tables four.own metric i None
  pub none : (p : Setup) (g z : ℕ) → IsAdmissible p → AreGiven tables p (λ m. Unit {0}) g z → g ≡ 0 → NoMove chess p
  pub end : (i : ℕ) (p : Setup) (x : ℕ) → Spells four.own.class i p → ¬ IsVoid four.own.class i → AreAlike (entry_at four.own Mate i) (entry_at four.own Zeroing i) → NoMove chess p → IsAtEnd p x
      → entry_at four.own Mate i ≡ x → entry_at four.own Zeroing i ≡ x → (metric : Metric) → IsJudged tables four.own metric i None

-- an entry with a byte of its own has a score
pub some_score : (e : ℕ) → e ≢ 0 → e ≢ 2 → e < 254 → byte_score e ≢ 0
some_score e some other low none = grind (arith, nat_tests)

module _ (tables : Tables) (four : FourMenTables) (men : ShelfMen) (side : Side) (targeted : Bool) (a b : ℕ) (says : Says tables four men side targeted a b) (are : AreTablesOf tables four men) (i : ℕ) (below : i < size_of four.own.class) where
  abbrev pub own : TableValue
  own = four.own

  of_void : IsVoid own.class i → (metric : Metric) → IsJudged tables own metric i None
  of_void void metric = void_judged tables own i metric void None (are.bytes.void metric i below void)

  module _ (p : Setup) (spells : Spells own.class i p) (index : IsIndex own.class p i) (mate zeroing : ℕ) (scores : AreAllScores targeted four men side a b mate zeroing) (tells : TellsMen targeted own.class i (stand_on men a b) side)
      (right : score_at own Mate i ≢ 0 → IsRightAt own i mate zeroing) where
    not_void : ¬ IsVoid own.class i
    not_void void = void p spells.admissible index

    alike : AreAlike (entry_at own Mate i) (entry_at own Zeroing i)
    alike = are.bytes.alike i below not_void

    has : HasStand own.class false (stand_on men a b) side targeted p
    has = says.stands i p spells (says.settled i p spells.admissible index spells) tells

    given : AreGiven tables p (λ m. Unit {0}) mate zeroing
    given = says.given p mate zeroing has scores

    judged : IsRightAt own i mate zeroing
    judged = right (λ none. some_score (entry_at own Mate i) alike.mate_known.some alike.mate_known.other alike.mate_known.low (sym (low_score (entry_at own Mate i) alike.mate_known.low) ∙ none))

    of_index : (metric : Metric) → IsJudged tables own metric i None
    of_index metric = elim (cases_eq mate 0) [
      | inl none ↦
          let (x, at_end, first, second) = judged.end none p spells in
          says.end i p x spells not_void alike (says.none p mate zeroing spells.admissible given none) at_end first second metric
      | inr some ↦
          let (first, second) = judged.due some in
          says.due i p mate zeroing spells not_void alike given some (sym (low_score (entry_at own Mate i) alike.mate_known.low) ∙ first) (sym (low_score (entry_at own Zeroing i) alike.zeroing_known.low) ∙ second) metric
    ]

  pub all_judged : (mate zeroing : ℕ) → TellsMen targeted own.class i (stand_on men a b) side → AreAllScores targeted four men side a b mate zeroing → (score_at own Mate i ≢ 0 → IsRightAt own i mate zeroing) → (metric : Metric) → IsJudged tables own metric i None
  all_judged mate zeroing tells scores right metric = elim (says.or_void i) [
    | inl spelled ↦ of_index spelled.0 spelled.1 spelled.2 mate zeroing scores tells right metric
    | inr void ↦ of_void void metric
  ]
