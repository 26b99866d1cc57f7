-- Entries whose bytes are due to the greatest bytes of the moves are right.
use Rattle.std.proofs.Common.{◌≡◌, ◌≢◌, ◌⊎◌, ℕ, ◌+◌, ◌-◌, ◌*◌, ◌/◌, ◌%◌, ◌<◌, ◌≤◌, Bool, true, false, cond, eqb, max}
use Rattle.std.proofs.Common.{Option, Some, None, arith, refl, sym, ap, ◌∙◌, inl, inr, subst}
use Rattle.egt_check.specs.Prelude.{cases_eq, cases_lt, ByMetric, AreAlike, AreGiven, IsJudged, IsShownBy, number_at}
use Rattle.egt_check.specs.Prelude.{eq-eqb, Zeroing, Outcome, score_of, value_of, HasEntry, entry_at, SameKind, both_due}
use Rattle.egt_check.specs.Prelude.{eqb_tells, nat_tests, due_score, Move, HasScores, IsCompared, TableValue, at_end_due}
use Rattle.egt_check.specs.Prelude.{Setup, Value, chess, Leads, Mate, Shows, Facts, IsDue, Spells, IsVoid}
use Rattle.egt_check.specs.Prelude.{IsAdmissible, shown_once, byte_score, zeroing_score, IsZeroingScore, zeroing_said}
use Rattle.egt_check.specs.Prelude.{NoMove, Metric, IsGiven, IsKnown, IsAtEnd, IsBest, Scores, Tables, ShowsOf, ComesOf}
use Rattle.egt_entries.specs.declared.outcome.Outcome.TheVariants as outcomes
use Rattle.egt_entries.proofs.Scoring.{told}
use Rattle.egt_check.proofs.ShelfJudged.{right_judged}
use Rattle.egt_check.proofs.Showing.{one_after}
use Rattle.egt_check.proofs.MoveScored.{Seen, scores_by}

-- ---- what a byte is

pub if_not : (a b x y : ℕ) → a ≢ b → cond (eqb a b) x y ≡ y
if_not a b x y other = elim (eqb_tells a b) [ inl h ↦ absurd (other h.1) | inr h ↦ ap (λ (t : Bool). cond t x y) h.0 ]

pub if_same : (a b x y : ℕ) → a ≡ b → cond (eqb a b) x y ≡ x
if_same a b x y same = ap (λ (t : Bool). cond t x y) (eq-eqb a b same)

-- what an entry with a byte of its own shows, and its byte
pub Byte : Outcome → ℕ → ℕ → Type 0
Byte (outcomes.Win k) x g = (x ≡ 2 + 2 * k) × (g ≡ k) × (0 < k) × (k ≤ 125)
Byte (outcomes.Loss k) x g = (x ≡ 3 + 2 * k) × (g + k ≡ 255) × (k ≤ 125)
Byte outcomes.Draw x g = (x ≡ 1) × (g ≡ 128)

byte_told : (x : ℕ) → IsKnown x → (o : Outcome) × Byte o x (byte_score x)
unfolding Byte
byte_told x known = elim (cases_eq x 1) [
  | inl draw ↦ (outcomes.Draw, (draw, ap byte_score draw))
  | inr other ↦ elim (cases_eq (x % 2) 0) [
    | inl even ↦ (outcomes.Win ((x - 2) / 2), grind (arith, nat_tests))
    | inr odd ↦ (outcomes.Loss ((x - 3) / 2), grind (arith, nat_tests))
  ]
]

byte_shows : (o : Outcome) (x g : ℕ) → Byte o x g → IsShownBy x (Some o)
unfolding Byte
byte_shows o x g h = grind arith

no_byte : (o : Outcome) (x g : ℕ) → Byte o x g → g ≢ 0
unfolding Byte
no_byte o x g h = grind arith

-- ---- bytes and the scores of the rules

-- the score for which a byte stands, where that of a draw is this one
pub StandsFor : (draw g score : ℕ) → Type 0
StandsFor draw g score = ((128 < g) × (score ≡ 64745 + g)) ⊎ (((g ≡ 128) × (score ≡ draw)) ⊎ ((g < 128) × (score ≡ g)))

stands_for : (draw g : ℕ) → (score : ℕ) × StandsFor draw g score
unfolding StandsFor
stands_for draw g = elim (cases_lt 128 g) [
  | inl high ↦ (64745 + g, inl (high, refl))
  | inr low ↦ elim (cases_eq g 128) [
    | inl same ↦ (draw, inr (inl (same, refl)))
    | inr other ↦ (g, inr (inr (omega (arith, low, other), refl)))
  ]
]

-- greater bytes stand for greater scores
stands_rising : (draw a b s t : ℕ) → 128 ≤ draw → draw ≤ 64000 → StandsFor draw a s → StandsFor draw b t → a ≤ b → s ≤ t
unfolding StandsFor
stands_rising draw a b s t low high x y le = omega (arith, x, y)

mate_stands : (o : Outcome) (x g score : ℕ) → Byte o x g → StandsFor 32002 g score → score ≡ score_of (Some o)
unfolding Byte StandsFor
mate_stands o x g score h s = grind arith

-- ---- a move's scores

-- where a move that zeroes leads to less, it is worth no more
pub zeroing_above : (v w : ℕ) → v ≤ w → zeroing_score v ≤ zeroing_score w
zeroing_above v w le = grind (arith, nat_tests)

-- moves that zero are worth as much together as the best of them
pub zeroing_max : (u v : ℕ) → max (zeroing_score u) (zeroing_score v) ≡ zeroing_score (max u v)
zeroing_max u v = grind (arith, nat_tests)

-- what is said in the zeroing column by a move that zeroes
zeroes_stands : (o : Outcome) (said : Option Outcome) (e x z score : ℕ) → Byte o e x → z ≡ zeroing_score x → StandsFor 32001 z score → score ≡ score_of (zeroing_said (Some o) said true)
unfolding Byte StandsFor
zeroes_stands o said e x z score h is s = grind (arith, nat_tests)

-- and by another
other_stands : (o o' : Outcome) (e f x z score : ℕ) → AreAlike e f → Byte o e x → Byte o' f z → StandsFor 32001 z score → score ≡ score_of (zeroing_said (Some o) (Some o') false)
unfolding Byte StandsFor
other_stands o o' e f x z score alike h i s = grind arith

module _ (facts : Facts) (tables : Tables) (p : Setup) (ok : IsAdmissible p) (q : Setup) (m : Move) (leads : Leads p m q) (x z : ℕ) (h : HasScores tables p q m x z) where
  o : (o : Outcome) × Byte o h.first (byte_score h.first)
  o = byte_told h.first h.known

  byte : Byte o.0 h.first x
  unfolding o
  byte = subst (Byte o.0 h.first) (sym h.mate_is) o.1

  seen : (said : Option Outcome) → IsShownBy h.second said → Seen tables p m (record { mate = h.first; zeroing = h.second }) (Some o.0) said h.zeroes
  unfolding o
  seen said shown = record { next = q; leads = leads; has = has; mate_shown = byte_shows o.0 h.first (byte_score h.first) o.1; zeroing_shown = shown; zeroes_is = h.zeroes_is }
    where
      has : (metric : Metric) → HasEntry tables metric q (number_at (record { mate = h.first; zeroing = h.second }) metric)
      has Mate = h.has_first
      has Zeroing = h.has_second

  pub mate_scores : (score : ℕ) → StandsFor 32002 x score → Scores (ShowsOf tables) Mate p q (m, leads) score
  unfolding o
  mate_scores score stands =
      let said = told h.second in
      let is = mate_stands o.0 h.first x score byte stands in
      subst (Scores (ShowsOf tables) Mate p q (m, leads)) (sym is)
      (scores_by facts tables p ok m (record { mate = h.first; zeroing = h.second }) (Some o.0) said.0 h.zeroes (seen said.0 said.1) (record { mate = score_of (Some o.0); zeroing = score_of (zeroing_said (Some o.0) said.0 h.zeroes) }) refl refl Mate q leads)

  by_said : (said : Option Outcome) → IsShownBy h.second said → (score : ℕ) → score ≡ score_of (zeroing_said (Some o.0) said h.zeroes) → Scores (ShowsOf tables) Zeroing p q (m, leads) score
  unfolding o
  by_said said shown score is =
      subst (Scores (ShowsOf tables) Zeroing p q (m, leads)) (sym is)
      (scores_by facts tables p ok m (record { mate = h.first; zeroing = h.second }) (Some o.0) said h.zeroes (seen said shown) (record { mate = score_of (Some o.0); zeroing = score_of (zeroing_said (Some o.0) said h.zeroes) }) refl refl Zeroing q leads)

  pub zeroing_scores : (score : ℕ) → StandsFor 32001 z score → Scores (ShowsOf tables) Zeroing p q (m, leads) score
  unfolding o
  zeroing_scores score stands = of h.zeroes refl h.zeroing_is
    where
      of : (b : Bool) → h.zeroes ≡ b → IsZeroingScore b h.first h.second x z → Scores (ShowsOf tables) Zeroing p q (m, leads) score
      of true e is =
          let said = told h.second in
          by_said said.0 said.1 score (zeroes_stands o.0 said.0 h.first x z score byte is stands ∙ ap (λ (b : Bool). score_of (zeroing_said (Some o.0) said.0 b)) (sym e))
      of false e is =
          let other = byte_told h.second is.0.zeroing_known in
          by_said (Some other.0) (byte_shows other.0 h.second (byte_score h.second) other.1) score
          (other_stands o.0 other.0 h.first h.second x z score is.0 byte (subst (Byte other.0 h.second) (sym is.1) other.1) stands ∙ ap (λ (b : Bool). score_of (zeroing_said (Some o.0) (Some other.0) b)) (sym e))

  -- the byte of a move is not 0
  pub some_byte : x ≢ 0
  unfolding o
  some_byte none = no_byte o.0 h.first x byte none

-- ---- the greatest of all moves

abbrev pub AllGiven : Tables → Setup → ℕ → ℕ → Type 0
AllGiven tables p g z = AreGiven tables p (λ m. Unit {0}) g z

module _ (facts : Facts) (tables : Tables) (p : Setup) (ok : IsAdmissible p) (g z : ℕ) (given : AllGiven tables p g z) where
  -- no byte says that there is no move
  pub none_given : g ≡ 0 → NoMove chess p
  none_given none q step =
      let h = given.above q step.0 step.1 tt in
      let le = h.3 in
      some_byte facts tables p ok q step.0 step.1 h.0 h.1 h.2 (omega (arith, le, none))

  -- a move with the mate byte
  first_given : g ≢ 0 → (z : ℕ) × IsGiven tables p (λ m. Unit {0}) g z
  first_given some = elim given.mate_given [ inl none ↦ absurd (some none) | inr h ↦ h ]

  pub mate_best : g ≢ 0 → (score : ℕ) → StandsFor 32002 g score → IsBest (ShowsOf tables) Mate p score
  unfolding StandsFor
  mate_best some score stands =
      let one = first_given some in record {
        next = one.1.next;
        step = (one.1.move, one.1.leads);
        reached = mate_scores facts tables p ok one.1.next one.1.move one.1.leads g one.0 one.1.scores score stands;
        passed = λ q step.
            let h = given.above q step.0 step.1 tt in
            let s = stands_for 32002 h.0 in
            (s.0, mate_scores facts tables p ok q step.0 step.1 h.0 h.1 h.2 s.0 s.1, stands_rising 32002 h.0 g s.0 score (omega arith) (omega arith) s.1 stands h.3);
      }

  -- a move with the zeroing byte
  second_given : g ≢ 0 → (x : ℕ) × IsGiven tables p (λ m. Unit {0}) x z
  second_given some = elim given.zeroing_given [
    | inr h ↦ h
    | inl none ↦
        let one = first_given some in
        let h = given.above one.1.next one.1.move one.1.leads tt in
        let le = h.4 in
        let zero : h.1 ≡ z = omega (arith, le, none) in
        (h.0, record { move = one.1.move; next = one.1.next; leads = one.1.leads; among = tt; scores = subst (HasScores tables p one.1.next one.1.move h.0) zero h.2 })
  ]

  pub zeroing_best : g ≢ 0 → (score : ℕ) → StandsFor 32001 z score → IsBest (ShowsOf tables) Zeroing p score
  unfolding StandsFor
  zeroing_best some score stands =
      let one = second_given some in record {
        next = one.1.next;
        step = (one.1.move, one.1.leads);
        reached = zeroing_scores facts tables p ok one.1.next one.1.move one.1.leads one.0 z one.1.scores score stands;
        passed = λ q step.
            let h = given.above q step.0 step.1 tt in
            let s = stands_for 32001 h.1 in
            (s.0, zeroing_scores facts tables p ok q step.0 step.1 h.0 h.1 h.2 s.0 s.1, stands_rising 32001 h.1 z s.0 score (omega arith) (omega arith) s.1 stands h.4);
      }

-- ---- the entry that is due

-- what a greatest byte may be
MayBe : ℕ → Type 0
MayBe g = (g ≤ 125) ⊎ ((g ≡ 128) ⊎ ((130 ≤ g) × (g ≤ 255)))

byte_may : (o : Outcome) (x g : ℕ) → Byte o x g → MayBe g
unfolding Byte MayBe
byte_may o x g h = grind arith

zeroing_may : (x : ℕ) → MayBe (zeroing_score x)
unfolding MayBe
zeroing_may x = grind (arith, nat_tests)

-- an entry with the byte that is due comes of the score
comes_decisive : (draw g score e : ℕ) (o : Outcome) → draw ≤ 32002 → 32001 ≤ draw → MayBe g → StandsFor draw g score → Byte o e (due_score g) → e ≢ 1 → ComesOf score e
unfolding Byte MayBe StandsFor
comes_decisive draw g score e o top low may stands byte other = λ said counted same. grind (arith, nat_tests)

-- a draw is due to a draw alone
drawn_due : (g : ℕ) → MayBe g → due_score g ≡ 128 → g ≡ 128
unfolding MayBe
drawn_due g may is = grind (arith, nat_tests)

stands_drawn : (draw g score : ℕ) → g ≡ 128 → StandsFor draw g score → score ≡ draw
unfolding StandsFor
stands_drawn draw g score same stands = omega (arith, stands)

comes_drawn : (score : ℕ) → score ≡ 32002 → ComesOf score 1
comes_drawn score is = λ said counted same. grind arith

comes_none : (score : ℕ) → score ≡ 32001 → ComesOf score 0
comes_none score is = λ said counted same. grind arith

never_drawn : (o : Outcome) (x : ℕ) → Shows x (value_of o) → x ≡ 1 → IsCompared Zeroing o → ⊥
never_drawn o x shows one compared = grind arith

same_kinds : (o o' : Outcome) (e f : ℕ) → AreAlike e f → Shows e (value_of o) → Shows f (value_of o') → SameKind (value_of o) (value_of o')
same_kinds o o' e f alike x y = grind arith

module _ (facts : Facts) (tables : Tables) (t : TableValue) (i : ℕ) (p : Setup) (spells : Spells t.class i p) (alone : (q : Setup) → Spells t.class i q → q ≡ p) (index : ¬ IsVoid t.class i) (alike : AreAlike (entry_at t Mate i) (entry_at t Zeroing i)) where
  own : (o : Outcome) × Byte o (entry_at t Mate i) (byte_score (entry_at t Mate i))
  own = byte_told (entry_at t Mate i) alike.mate_known

  other : (o : Outcome) × Byte o (entry_at t Zeroing i) (byte_score (entry_at t Zeroing i))
  other = byte_told (entry_at t Zeroing i) alike.zeroing_known

  mate_shown : Shows (entry_at t Mate i) (value_of own.0)
  unfolding own
  mate_shown = byte_shows own.0 (entry_at t Mate i) (byte_score (entry_at t Mate i)) own.1

  zeroing_shown : Shows (entry_at t Zeroing i) (value_of other.0)
  unfolding other
  zeroing_shown = byte_shows other.0 (entry_at t Zeroing i) (byte_score (entry_at t Zeroing i)) other.1

  agrees : (v w : Value) → Shows (entry_at t Mate i) v → Shows (entry_at t Zeroing i) w → SameKind v w
  unfolding own other
  agrees v w x y =
      subst (λ v. SameKind v w) (shown_once (entry_at t Mate i) (value_of own.0) v mate_shown x)
      (subst (λ w. SameKind (value_of own.0) w) (shown_once (entry_at t Zeroing i) (value_of other.0) w zeroing_shown y) (same_kinds own.0 other.0 (entry_at t Mate i) (entry_at t Zeroing i) alike mate_shown zeroing_shown))

  -- entries that are due, or draws in the zeroing column
  judged_by : (due : ByMetric) → ((metric : Metric) → IsDue (ShowsOf tables) metric p (number_at due metric)) → entry_at t Mate i ≡ due.mate → (IsCompared Zeroing other.0 → entry_at t Zeroing i ≡ due.zeroing) → (metric : Metric) → IsJudged tables t metric i None
  unfolding own other
  judged_by due is_due mate zeroing =
      right_judged tables t i p spells alone index (record { mate = entry_at t Mate i; zeroing = entry_at t Zeroing i }) due numbers is_due
      (record { outcome = own.0; shows = mate_shown; agrees = tt; is = λ compared. mate })
      (record { outcome = other.0; shows = zeroing_shown; agrees = agrees; is = zeroing })
    where
      numbers : (metric : Metric) → number_at (record { mate = entry_at t Mate i; zeroing = entry_at t Zeroing i }) metric ≡ entry_at t metric i
      numbers Mate = refl
      numbers Zeroing = refl

  module _ (g z : ℕ) (given : AllGiven tables p g z) (some : g ≢ 0) (mate_due : byte_score (entry_at t Mate i) ≡ due_score g) (zeroing_due : byte_score (entry_at t Zeroing i) ≡ due_score z) where
    g_may : MayBe g
    g_may =
        let one = first_given facts tables p spells.admissible g z given some in
        let told = byte_told one.1.scores.first one.1.scores.known in
        byte_may told.0 one.1.scores.first g (subst (Byte told.0 one.1.scores.first) (sym one.1.scores.mate_is) told.1)

    z_may : MayBe z
    z_may = of one.1.scores.zeroes one.1.scores.zeroing_is
      where
        one : (x : ℕ) × IsGiven tables p (λ m. Unit {0}) x z
        one = second_given facts tables p spells.admissible g z given some

        of : (b : Bool) → IsZeroingScore b one.1.scores.first one.1.scores.second one.0 z → MayBe z
        of true is = subst MayBe (sym is) (zeroing_may one.0)
        of false is =
            let told = byte_told one.1.scores.second is.0.zeroing_known in
            byte_may told.0 one.1.scores.second z (subst (Byte told.0 one.1.scores.second) (sym is.1) told.1)

    first : (score : ℕ) × StandsFor 32002 g score
    first = stands_for 32002 g

    second : (score : ℕ) × StandsFor 32001 z score
    second = stands_for 32001 z

    mate_byte : Byte own.0 (entry_at t Mate i) (due_score g)
    unfolding own
    mate_byte = subst (Byte own.0 (entry_at t Mate i)) mate_due own.1

    zeroing_byte : Byte other.0 (entry_at t Zeroing i) (due_score z)
    unfolding other
    zeroing_byte = subst (Byte other.0 (entry_at t Zeroing i)) zeroing_due other.1

    mate_comes : ComesOf first.0 (entry_at t Mate i)
    unfolding own first
    mate_comes = elim (cases_eq (entry_at t Mate i) 1) [
      | inr not ↦ comes_decisive 32002 g first.0 (entry_at t Mate i) own.0 (omega arith) (omega arith) g_may first.1 mate_byte not
      | inl one ↦
          let drawn = drawn_due g g_may (sym mate_due ∙ ap byte_score one) in
          subst (ComesOf first.0) (sym one) (comes_drawn first.0 (stands_drawn 32002 g first.0 drawn first.1))
    ]

    best : (metric : Metric) → IsBest (ShowsOf tables) metric p (number_at (record { mate = first.0; zeroing = second.0 }) metric)
    unfolding first second
    best Mate = mate_best facts tables p spells.admissible g z given some first.0 first.1
    best Zeroing = zeroing_best facts tables p spells.admissible g z given some second.0 second.1

    due : (x : ℕ) → ComesOf second.0 x → (metric : Metric) → IsDue (ShowsOf tables) metric p (number_at (record { mate = entry_at t Mate i; zeroing = x }) metric)
    unfolding first second
    due x comes = both_due (ShowsOf tables) p (one_after facts tables p spells.admissible) (record { mate = first.0; zeroing = second.0 }) (record { mate = entry_at t Mate i; zeroing = x }) best mate_comes comes

    pub due_judged : (metric : Metric) → IsJudged tables t metric i None
    unfolding own other first second
    due_judged = elim (cases_eq (entry_at t Zeroing i) 1) [
      | inr not ↦
          let comes = comes_decisive 32001 z second.0 (entry_at t Zeroing i) other.0 (omega arith) (omega arith) z_may second.1 zeroing_byte not in
          judged_by (record { mate = entry_at t Mate i; zeroing = entry_at t Zeroing i }) (due (entry_at t Zeroing i) comes) refl (λ compared. refl)
      | inl one ↦
          let drawn = drawn_due z z_may (sym zeroing_due ∙ ap byte_score one) in
          judged_by (record { mate = entry_at t Mate i; zeroing = 0 }) (due 0 (comes_none second.0 (stands_drawn 32001 z second.0 drawn second.1))) refl (λ compared. absurd (never_drawn other.0 (entry_at t Zeroing i) zeroing_shown one compared))
    ]

  -- without a move the entries tell checkmate or stalemate
  module _ (stuck : NoMove chess p) (x : ℕ) (end : IsAtEnd p x) (mate : entry_at t Mate i ≡ x) (zeroing : entry_at t Zeroing i ≡ x) where
    pub end_judged : (metric : Metric) → IsJudged tables t metric i None
    end_judged = judged_by (record { mate = x; zeroing = x }) (at_end_due (ShowsOf tables) p x stuck end) mate (λ compared. zeroing)
