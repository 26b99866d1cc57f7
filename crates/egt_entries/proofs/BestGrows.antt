-- The best score grows move by move.
use Rattle.std.proofs.Common.{◌≡◌, ℕ, ◌+◌, ◌<◌, ◌≤◌, ◌⊎◌, max, List, get_or, length, Option, Some, None, IfSome, refl}
use Rattle.std.proofs.Common.{sym, ap, subst, ◌∙◌, inl, inr, arith}
use Rattle.egt_entries.specs.Prelude.{IfNone, Contains, cases_lt, get_or_default, Setup, NoMove, chess, Leads, IsLegal}
use Rattle.egt_entries.specs.Prelude.{Move, Metric, Mate, ByMetric, Shown, AtMost, IsReached, IsRaised, best_in}
use Rattle.egt_entries.specs.Prelude.{AreRaised, number_at, greater, Scores, IsBest}

more : (low high : ℕ) (best : Option ℕ) → low ≤ high → AtMost high best → AtMost low best
more low high best le h = grind arith

-- a best that holds for the one holds for the other
carried : (score : ℕ) (mid new : Option ℕ) → ((s : ℕ) → mid ≡ Some s → AtMost s new) → AtMost score mid → AtMost score new
carried score None new kept h = absurd h
carried score (Some s) new kept h = more score s new h (kept s refl)

at_itself : (score : ℕ) (o : Option ℕ) → o ≡ Some score → AtMost score o
at_itself score o is = subst (AtMost score) (sym is) (omega arith)

module _ (shows : Shown) (metric : Metric) (p : Setup) where
  -- nothing is raised by no moves
  pub raised_by_none : (Among : Move → Type 0) (old : Option ℕ) → ((m : Move) → IsLegal p m → ¬ Among m) → IsRaised shows metric p Among old old
  raised_by_none Among old never = record {
    kept = λ score is. at_itself score old is;
    from = inl refl;
    passed = λ q m leads among. absurd (never m (q, leads) among);
  }

  -- one move
  pub raised_by_one : (only : Move) (old : Option ℕ) (score : ℕ) → IsLegal p only → ((q : Setup) (leads : Leads p only q) → Scores shows metric p q (only, leads) score)
      → IsRaised shows metric p (λ m. m ≡ only) old (Some (greater old score))
  raised_by_one only None score legal scores = record {
    kept = λ s is. let none = is in cc;
    from = inr (record { score = score; is = refl; next = legal.0; step = (only, legal.1); reached = scores legal.0 legal.1 });
    passed = λ q m leads same. (score, subst (λ m. (leads : Leads p m q) → Scores shows metric p q (m, leads) score) (sym same) (scores q) leads, omega arith);
  }
  raised_by_one only (Some best) score legal scores = record {
    kept = λ s is. let same = one_some is in omega arith;
    from = elim (cases_lt best score) [
      | inl less ↦ let is : max best score ≡ score = omega arith in inr (record { score = score; is = ap Some is; next = legal.0; step = (only, legal.1); reached = scores legal.0 legal.1 })
      | inr ge ↦ let is : max best score ≡ best = omega arith in inl (ap Some is)
    ];
    passed = λ q m leads same. (score, subst (λ m. (leads : Leads p m q) → Scores shows metric p q (m, leads) score) (sym same) (scores q) leads, omega arith);
  }
    where
      one_some : {a b : ℕ} → Some a ≡ Some b → a ≡ b
      one_some e = cc

  -- some moves, and then others
  pub raised_by_both : (A B Among : Move → Type 0) (old mid new : Option ℕ) → IsRaised shows metric p A old mid → IsRaised shows metric p B mid new
      → ((m : Move) → IsLegal p m → Among m → A m ⊎ B m) → IsRaised shows metric p Among old new
  raised_by_both A B Among old mid new first then covers = record {
    kept = λ score is. carried score mid new then.kept (first.kept score is);
    from = elim then.from [
      | inr reached ↦ inr reached
      | inl same ↦ elim first.from [
        | inl unchanged ↦ inl (same ∙ unchanged)
        | inr reached ↦ inr (subst (IsReached shows metric p) (sym same) reached)
      ]
    ];
    passed = λ q m leads among. elim (covers m (q, leads) among) [
      | inl a ↦ let seen = first.passed q m leads a in (seen.0, seen.1, carried seen.0 mid new then.kept seen.2)
      | inr b ↦ then.passed q m leads b
    ];
  }

  -- what the moves of A raise, other moves raise too, where A has each legal one of them
  pub raised_alike : (A Among : Move → Type 0) (old new : Option ℕ) → IsRaised shows metric p A old new → ((m : Move) → IsLegal p m → Among m → A m) → IsRaised shows metric p Among old new
  raised_alike A Among old new raised covers = record {
    kept = raised.kept;
    from = raised.from;
    passed = λ q m leads among. raised.passed q m leads (covers m (q, leads) among);
  }

  -- once all moves are among them
  pub best_raised : (Among : Move → Type 0) (best : ℕ) → IsRaised shows metric p Among None (Some best) → ((m : Move) → IsLegal p m → Among m) → IsBest shows metric p best
  best_raised Among best raised all = elim raised.from [
    | inl none ↦ absurd (cc none)
    | inr h ↦ record {
      next = h.next;
      step = h.step;
      reached = let same : h.score ≡ best = one_some (sym h.is) in subst (Scores shows metric p h.next h.step) same h.reached;
      passed = λ q step. raised.passed q step.0 step.1 (all step.0 (q, step.1));
    }
  ]
    where
      one_some : {a b : ℕ} → Some a ≡ Some b → a ≡ b
      one_some e = cc

  pub none_raised : (Among : Move → Type 0) → IsRaised shows metric p Among None None → ((m : Move) → IsLegal p m → Among m) → NoMove chess p
  none_raised Among raised all q step = let seen = raised.passed q step.0 step.1 (all step.0 (q, step.1)) in seen.2

module _ (shows : Shown) (p : Setup) (Among : Move → Type 0) (all : (m : Move) → IsLegal p m → Among m) where
  pub best_found : (best : Option ByMetric) → ((metric : Metric) → IsRaised shows metric p Among None (best_in metric best)) → IfSome best (λ found. (metric : Metric) → IsBest shows metric p (number_at found metric))
  best_found (Some found) raised = λ metric. best_raised shows metric p Among (number_at found metric) (raised metric) all
  best_found None raised = tt

  pub none_found : (best : Option ByMetric) → ((metric : Metric) → IsRaised shows metric p Among None (best_in metric best)) → IfNone best (NoMove chess p)
  none_found (Some found) raised = tt
  none_found None raised = none_raised shows Mate p Among (raised Mate) all

-- a column's best after a move with these scores
pub raised_is : (shows : Shown) (metric : Metric) (p : Setup) (m : Move) (old : Option ByMetric) (scores result : ByMetric) → number_at result metric ≡ greater (best_in metric old) (number_at scores metric) → IsLegal p m
    → ((q : Setup) (leads : Leads p m q) → Scores shows metric p q (m, leads) (number_at scores metric)) → IsRaised shows metric p (λ x. x ≡ m) (best_in metric old) (best_in metric (Some result))
raised_is shows metric p m old scores result is legal scored =
    subst (IsRaised shows metric p (λ x. x ≡ m) (best_in metric old)) (ap Some (sym is)) (raised_by_one shows metric p m (best_in metric old) (number_at scores metric) legal scored)

-- moves that are among the first of a list
abbrev pub Tried : List Move → ℕ → Move → Type 0
Tried moves n m = (k : ℕ) × (k < n) × (get_or moves k m ≡ m)

-- no move is among the first none
pub untried : (moves : List Move) (m : Move) → ¬ Tried moves 0 m
untried moves m tried = let lt = tried.1 in omega (arith, lt)

-- the last of one more is the move there
pub tried_before : (moves : List Move) (n : ℕ) (tried m : Move) → n < length moves → tried ≡ get_or moves n tried → Tried moves (n + 1) m → Tried moves n m ⊎ (m ≡ tried)
tried_before moves n tried m inside here among = grind (arith, cases_lt, get_or_default, get_or)

-- each of a list is among as many as it has
pub tried_listed : (moves : List Move) (n : ℕ) (m : Move) → length moves ≤ n → Contains moves m → Tried moves n m
tried_listed moves n m all there = (there.0, omega (arith, there.1, all), there.2)

module _ (shows : Shown) (p : Setup) (moves : List Move) where
  pub tried_none : (old : Option ByMetric) → AreRaised shows p (Tried moves 0) old old
  tried_none old = λ metric. raised_by_none shows metric p (Tried moves 0) (best_in metric old) (λ m legal. untried moves m)

  pub tried_more : (n : ℕ) (tried : Move) (old mid new : Option ByMetric) → n < length moves → tried ≡ get_or moves n tried → AreRaised shows p (Tried moves n) old mid
      → AreRaised shows p (λ m. m ≡ tried) mid new → AreRaised shows p (Tried moves (n + 1)) old new
  tried_more n tried old mid new inside here first then = λ metric.
      raised_by_both shows metric p (Tried moves n) (λ m. m ≡ tried) (Tried moves (n + 1)) (best_in metric old) (best_in metric mid) (best_in metric new) (first metric) (then metric)
      (λ m legal. tried_before moves n tried m inside here)

  pub tried_all : (n : ℕ) (old new : Option ByMetric) → length moves ≤ n → ((m : Move) → IsLegal p m → Contains moves m) → AreRaised shows p (Tried moves n) old new → AreRaised shows p (λ m. Unit {0}) old new
  tried_all n old new all listed raised = λ metric.
      raised_alike shows metric p (Tried moves n) (λ m. Unit {0}) (best_in metric old) (best_in metric new) (raised metric) (λ m legal at. tried_listed moves n m all (listed m legal))

-- each of a list is in it
pub listed_there : (moves : List Move) (n : ℕ) (m : Move) → n < length moves → m ≡ get_or moves n m → Contains moves m
listed_there moves n m inside is = (n, inside, sym is)
