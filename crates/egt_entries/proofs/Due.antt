-- Which entry is due, by the best score of a step.
use Rattle.std.proofs.Common.{◌≡◌, ℕ, zero, suc, IfSome, ◌-◌, ◌<◌, ◌≤◌, ◌⊎◌, ◌↔◌, inl, inr, Bool, true, false, IsTrue}
use Rattle.std.proofs.Common.{Option, Some, None, refl, sym, ap, subst, ◌∙◌, arith}
use Rattle.egt_entries.specs.Prelude.{cases_lt, Setup, Value, Win, Loss, Draw, NoMove, SomeMove, IsStalemate, Ends}
use Rattle.egt_entries.specs.Prelude.{chess, StandsAs, Standing, Checkmate, Stalemate, HasMove, Metric, Mate, Zeroing}
use Rattle.egt_entries.specs.Prelude.{ByMetric, Outcome, longest, IsShort, entry_of, Shown, Counts, FitsBeside}
use Rattle.egt_entries.specs.Prelude.{number_at, value_of, Says, IsCounted, IsSaid, score_of, IsBest, loss_in, win_in}
use Rattle.egt_entries.specs.Prelude.{zeroing_said, IsAtEnd, entry_before, IsDueDraw, IsDue}
use Rattle.egt_entries.specs.declared.outcome.Outcome.TheVariants as outcomes
use Rattle.std.proofs.lemmas.Bool.Decides.{nat_tests}
use Rattle.std.proofs.lemmas.Grind.{common_steps}

-- what each column shows of a position is one thing, for which an entry has room
pub record IsOne (shows : Shown) (q : Setup) : Type 0 where
  pub one : (metric : Metric) (v w : Value) → shows metric q v → shows metric q w → v ≡ w
  pub short : (metric : Metric) (v : Value) → shows metric q v → IsShort v

-- what a column shows of a position, or that it shows nothing
abbrev pub IsShownOf : Shown → Metric → Setup → Option Outcome → Type 0
IsShownOf shows metric q (Some outcome) = shows metric q (value_of outcome)
IsShownOf shows metric q None = (v : Value) → ¬ shows metric q v

pub same_value : (a b : Outcome) → value_of a ≡ value_of b → a ≡ b
same_value a b e = grind (arith, common_steps)

is_counted : (outcome : Outcome) → IsShort (value_of outcome) → IsCounted outcome
is_counted outcome short = grind (arith, nat_tests)

pub said_counted : (shows : Shown) (metric : Metric) (p q : Setup) (m : chess.Move p q) (said : Option Outcome) → IsSaid shows metric p q m said → IfSome said IsCounted
said_counted shows metric p q m said h = grind arith

module _ (shows : Shown) (p q : Setup) (m : chess.Move p q) (one : IsOne shows q) where
  -- the count of a step that zeroes, or else of its successor's entry
  abbrev CountsBy : (ℕ → Value) → ℕ → Type 0
  CountsBy kind k = (chess.Zeroes p q m × (k ≡ 0)) ⊎ (¬ (chess.Zeroes p q m) × shows Zeroing q (kind k))

  same_count : (kind : ℕ → Value) (i j : ℕ) → (kind i ≡ kind j → i ≡ j) → CountsBy kind i → CountsBy kind j → i ≡ j
  same_count kind i j back (inl a) (inl b) = a.1 ∙ sym b.1
  same_count kind i j back (inl a) (inr b) = absurd (b.0 a.0)
  same_count kind i j back (inr a) (inl b) = absurd (a.0 b.0)
  same_count kind i j back (inr a) (inr b) = back (one.one Zeroing (kind i) (kind j) a.1 b.1)

  mate_shows : (outcome : Outcome) → Says shows Mate p q m outcome → shows Mate q (value_of outcome)
  mate_shows outcome says = grind (arith, common_steps)

  mate_says : (outcome : Outcome) → shows Mate q (value_of outcome) → Says shows Mate p q m outcome
  mate_says outcome shown = grind (arith, common_steps)

  -- a step says one thing
  says_once : (metric : Metric) (a b : Outcome) → Says shows metric p q m a → Says shows metric p q m b → a ≡ b
  says_once Mate a b x y = same_value a b (one.one Mate (value_of a) (value_of b) (mate_shows a x) (mate_shows b y))
  says_once Zeroing (outcomes.Win i) (outcomes.Win j) x y = ap outcomes.Win (same_count Win i j (λ e. cc) x.1 y.1)
  says_once Zeroing (outcomes.Win i) (outcomes.Loss j) x y = let e = one.one Mate (Win x.0.0) (Loss y.0.0) x.0.1 y.0.1 in cc
  says_once Zeroing (outcomes.Loss i) (outcomes.Win j) x y = let e = one.one Mate (Loss x.0.0) (Win y.0.0) x.0.1 y.0.1 in cc
  says_once Zeroing (outcomes.Loss i) (outcomes.Loss j) x y = ap outcomes.Loss (same_count Loss i j (λ e. cc) x.1 y.1)
  says_once Zeroing outcomes.Draw b x y = absurd x
  says_once Zeroing (outcomes.Win i) outcomes.Draw x y = absurd y
  says_once Zeroing (outcomes.Loss i) outcomes.Draw x y = absurd y

  pub said_is : (metric : Metric) (said : Option Outcome) (b : Outcome) → IsSaid shows metric p q m said → Says shows metric p q m b → said ≡ Some b
  said_is metric (Some a) b x y = ap Some (says_once metric a b x.0 y)
  said_is metric None b x y = absurd (x b y)

  -- in the mate column a step says what the successor's entry shows
  pub mate_said : (shown : Option Outcome) → IsShownOf shows Mate q shown → IsSaid shows Mate p q m shown
  mate_said shown h = grind (arith, mate_says, is_counted, value_of)

  -- where the mate column shows something else, the zeroing column says no win, or no loss
  no_loss_where : (v : Value) → shows Mate q v → ((i : ℕ) → v ≡ Loss i → ⊥) → (k : ℕ) → ¬ Says shows Zeroing p q m (outcomes.Loss k)
  no_loss_where v h other k says = other says.0.0 (one.one Mate v (Loss says.0.0) h says.0.1)

  no_win_where : (v : Value) → shows Mate q v → ((i : ℕ) → v ≡ Win i → ⊥) → (k : ℕ) → ¬ Says shows Zeroing p q m (outcomes.Win k)
  no_win_where v h other k says = other says.0.0 (one.one Mate v (Win says.0.0) h says.0.1)

  neither : ((k : ℕ) → ¬ Says shows Zeroing p q m (outcomes.Win k)) → ((k : ℕ) → ¬ Says shows Zeroing p q m (outcomes.Loss k)) → IsSaid shows Zeroing p q m None
  neither win loss (outcomes.Win k) says = win k says
  neither win loss (outcomes.Loss k) says = loss k says
  neither win loss outcomes.Draw says = says

  -- a step that does not zero counts for what the zeroing entry shows
  no_count : (kind : ℕ → Value) → ¬ (chess.Zeroes p q m) → ((k : ℕ) → ¬ shows Zeroing q (kind k)) → (k : ℕ) → ¬ Counts shows Zeroing kind p q m k
  no_count kind quiet none k counts = grind arith

  other_shown : (v w : Value) → shows Zeroing q v → (v ≡ w → ⊥) → ¬ shows Zeroing q w
  other_shown v w h other k = other (one.one Zeroing v w h k)

  quiet_loss : (i : ℕ) (zeroing : Option Outcome) → shows Mate q (Loss i) → IsShownOf shows Zeroing q zeroing → ¬ (chess.Zeroes p q m) → IsSaid shows Zeroing p q m (loss_in zeroing)
  quiet_loss i (Some (outcomes.Loss k)) h z quiet = (((i, h), inr (quiet, z)), one.short Zeroing (Loss k) z)
  quiet_loss i (Some (outcomes.Win k)) h z quiet =
      neither (no_win_where (Loss i) h (λ j e. cc)) (no_count Loss quiet (λ j. other_shown (Win k) (Loss j) z (λ e. cc)))
  quiet_loss i (Some outcomes.Draw) h z quiet =
      neither (no_win_where (Loss i) h (λ j e. cc)) (no_count Loss quiet (λ j. other_shown Draw (Loss j) z (λ e. cc)))
  quiet_loss i None h z quiet = neither (no_win_where (Loss i) h (λ j e. cc)) (no_count Loss quiet (λ j. z (Loss j)))

  quiet_win : (i : ℕ) (zeroing : Option Outcome) → shows Mate q (Win i) → IsShownOf shows Zeroing q zeroing → ¬ (chess.Zeroes p q m) → IsSaid shows Zeroing p q m (win_in zeroing)
  quiet_win i (Some (outcomes.Win k)) h z quiet = (((i, h), inr (quiet, z)), (one.short Zeroing (Win k) z).1)
  quiet_win i (Some (outcomes.Loss k)) h z quiet =
      neither (no_count Win quiet (λ j. other_shown (Loss k) (Win j) z (λ e. cc))) (no_loss_where (Win i) h (λ j e. cc))
  quiet_win i (Some outcomes.Draw) h z quiet =
      neither (no_count Win quiet (λ j. other_shown Draw (Win j) z (λ e. cc))) (no_loss_where (Win i) h (λ j e. cc))
  quiet_win i None h z quiet = neither (no_count Win quiet (λ j. z (Win j))) (no_loss_where (Win i) h (λ j e. cc))

  -- in the zeroing column it says this
  pub zeroing_is_said : (mate zeroing : Option Outcome) (zeroes : Bool) → IsShownOf shows Mate q mate → IsShownOf shows Zeroing q zeroing → IsTrue zeroes ↔ chess.Zeroes p q m → IsSaid shows Zeroing p q m (zeroing_said mate zeroing zeroes)
  zeroing_is_said (Some (outcomes.Loss i)) zeroing true h z b = (((i, h), inl (b.0 refl, refl)), omega arith)
  zeroing_is_said (Some (outcomes.Loss i)) zeroing false h z b = quiet_loss i zeroing h z (λ y. let e = b.1 y in cc)
  zeroing_is_said (Some (outcomes.Win i)) zeroing true h z b = (((i, h), inl (b.0 refl, refl)), omega arith)
  zeroing_is_said (Some (outcomes.Win i)) zeroing false h z b = quiet_win i zeroing h z (λ y. let e = b.1 y in cc)
  zeroing_is_said (Some outcomes.Draw) zeroing zeroes h z b =
      neither (no_win_where Draw h (λ j e. cc)) (no_loss_where Draw h (λ j e. cc))
  zeroing_is_said None zeroing zeroes h z b = neither (λ k says. h (Win says.0.0) says.0.1) (λ k says. h (Loss says.0.0) says.0.1)

-- a score tells what was said, up to nothing
below_draw : (said : Option Outcome) → IfSome said IsCounted → score_of said ≤ longest → said ≡ Some (outcomes.Win (score_of said))
below_draw said counted low = grind (arith, nat_tests)

above_draw : (said : Option Outcome) → IfSome said IsCounted → 33000 ≤ score_of said → said ≡ Some (outcomes.Loss (65000 - score_of said))
above_draw said counted high = grind (arith, nat_tests)

at_draw : (said : Option Outcome) → IfSome said IsCounted → 32002 ≤ score_of said → score_of said < 33000 → said ≡ Some outcomes.Draw
at_draw said counted low high = grind (arith, nat_tests)

-- the entry that is due shows the value after what was said
win_is_due : (said : Option Outcome) (n : ℕ) → entry_before said ≡ entry_of (Win (suc n)) → said ≡ Some (outcomes.Loss n)
win_is_due said n e = grind (arith, nat_tests)

loss_is_due : (said : Option Outcome) (n : ℕ) → entry_before said ≡ entry_of (Loss (suc n)) → said ≡ Some (outcomes.Win n)
loss_is_due said n e = grind (arith, nat_tests)

draw_is_due : (said : Option Outcome) → entry_before said ≡ entry_of Draw → said ≡ Some outcomes.Draw
draw_is_due said e = grind (arith, nat_tests)

no_win_at_once : (said : Option Outcome) → ¬ (entry_before said ≡ entry_of (Win zero))
no_win_at_once said e = grind (arith, nat_tests)

no_loss_at_once : (said : Option Outcome) → ¬ (entry_before said ≡ entry_of (Loss zero))
no_loss_at_once said e = grind (arith, nat_tests)

module _ (shows : Shown) (metric : Metric) (p : Setup) (one : (q : Setup) → chess.Move p q → IsOne shows q) (best : ℕ) (is : IsBest shows metric p best) where
  -- what the best step says
  abbrev best_said : Option Outcome
  best_said = is.reached.said

  best_counted : IfSome best_said IsCounted
  best_counted = said_counted shows metric p is.next is.step best_said is.reached.is_said

  best_says : (outcome : Outcome) → best_said ≡ Some outcome → Says shows metric p is.next is.step outcome
  best_says outcome e = (subst (IsSaid shows metric p is.next is.step) e is.reached.is_said).0

  -- no step says what scores higher
  highest : (q : Setup) (m : chess.Move p q) (outcome : Outcome) → Says shows metric p q m outcome → (score_of (Some outcome) ≤ score_of best_said) × IsCounted outcome
  highest q m outcome says =
      let s = is.passed q m in
      let e : s.1.said ≡ Some outcome = said_is shows p q m (one q m) metric s.1.said outcome s.1.is_said says in
      let low : score_of s.1.said ≤ score_of best_said = omega (arith, s.2, s.1.is, is.reached.is) in
      (subst (λ said. score_of said ≤ score_of best_said) e low, subst (λ said. IfSome said IsCounted) e (said_counted shows metric p q m s.1.said s.1.is_said))

  -- where some step says a loss, the best says none that is later
  least_loss : (n : ℕ) (q : Setup) (m : chess.Move p q) → Says shows metric p q m (outcomes.Loss n) → (k : ℕ) × (best_said ≡ Some (outcomes.Loss k)) × (k ≤ n)
  least_loss n q m says =
      let h = highest q m (outcomes.Loss n) says in
      (65000 - score_of best_said, above_draw best_said best_counted (omega (arith, h.0, h.1)), omega (arith, h.0, h.1))

  win_due : (n : ℕ) → FitsBeside shows metric p (Win n) ↔ (entry_before best_said ≡ entry_of (Win n))
  win_due zero = ((λ h. absurd h), (λ e. no_win_at_once best_said e))
  win_due (suc n) = (there, back)
    where
      there : FitsBeside shows metric p (Win (suc n)) → entry_before best_said ≡ entry_of (Win (suc n))
      there h =
          let l = least_loss n h.0.0 h.0.1 h.0.2 in
          let least : n ≤ l.0 = h.1 is.next is.step l.0 (best_says (outcomes.Loss l.0) l.1) in
          let same : l.0 ≡ n = omega (arith, l.2) in
          ap entry_before l.1 ∙ ap (λ i. entry_of (Win (suc i))) same

      back : entry_before best_said ≡ entry_of (Win (suc n)) → FitsBeside shows metric p (Win (suc n))
      back e =
          let s = win_is_due best_said n e in
          let least : (q : Setup) (m : chess.Move p q) (k : ℕ) → Counts shows metric Loss p q m k → n ≤ k =
          λ q m k counts.
          let l = least_loss k q m counts in
          let same : Some (outcomes.Loss n) ≡ Some (outcomes.Loss l.0) = sym s ∙ l.1 in
          let number : n ≡ l.0 = cc in
          omega (arith, l.2) in
          ((is.next, is.step, best_says (outcomes.Loss n) s), least)

  -- where the best step says a win, each says a win, and none a later one
  each_win : (n : ℕ) → best_said ≡ Some (outcomes.Win n) → (q : Setup) (m : chess.Move p q) → (k : ℕ) × Says shows metric p q m (outcomes.Win k) × (k ≤ n)
  each_win n e q m =
      let s = is.passed q m in
      let counts : IsCounted (outcomes.Win n) = subst (λ said. IfSome said IsCounted) e best_counted in
      let high : score_of best_said ≡ n = ap score_of e in
      let low : score_of s.1.said ≤ n = omega (arith, s.2, s.1.is, is.reached.is) in
      let w = below_draw s.1.said (said_counted shows metric p q m s.1.said s.1.is_said) (omega (arith, counts)) in
      (score_of s.1.said, (subst (IsSaid shows metric p q m) w s.1.is_said).0, low)

  loss_due : Ends chess → (n : ℕ) → FitsBeside shows metric p (Loss n) ↔ (entry_before best_said ≡ entry_of (Loss n))
  loss_due ends zero = ((λ mate. absurd (ends p mate is.next is.step)), (λ e. absurd (no_loss_at_once best_said e)))
  loss_due ends (suc n) = (there, back)
    where
      there : FitsBeside shows metric p (Loss (suc n)) → entry_before best_said ≡ entry_of (Loss (suc n))
      there h =
          let w = h.1 is.next is.step in
          let e : best_said ≡ Some (outcomes.Win w.0) = said_is shows p is.next is.step (one is.next is.step) metric best_said (outcomes.Win w.0) is.reached.is_said w.1 in
          let high : score_of best_said ≡ w.0 = ap score_of e in
          let reached = highest h.0.0 h.0.1 (outcomes.Win n) h.0.2 in
          let same : w.0 ≡ n = omega (arith, w.2, reached.0) in
          ap entry_before e ∙ ap (λ i. entry_of (Loss (suc i))) same

      back : entry_before best_said ≡ entry_of (Loss (suc n)) → FitsBeside shows metric p (Loss (suc n))
      back e =
          let s = loss_is_due best_said n e in
          ((is.next, is.step, best_says (outcomes.Win n) s), λ q m. each_win n s q m)

-- a draw is due in the mate column where the best step says one
module _ (shows : Shown) (p : Setup) (one : (q : Setup) → chess.Move p q → IsOne shows q) (best : ℕ) (is : IsBest shows Mate p best) where
  abbrev mate_said_best : Option Outcome
  mate_said_best = is.reached.said

  draw_due : FitsBeside shows Mate p Draw ↔ (entry_before mate_said_best ≡ entry_of Draw)
  draw_due = (there, back)
    where
      no_loss : FitsBeside shows Mate p Draw → (k : ℕ) → mate_said_best ≡ Some (outcomes.Loss k) → ⊥
      no_loss h k e = h.0 is.next is.step k (best_says shows Mate p one best is (outcomes.Loss k) e)

      drawn : FitsBeside shows Mate p Draw → IsStalemate chess p ⊎ SomeMove chess p (λ q. shows Mate q Draw) → entry_before mate_said_best ≡ entry_of Draw
      drawn h (inl stale) = absurd (stale.0 is.next is.step)
      drawn h (inr some) = elim (cases_lt (score_of mate_said_best) 33000) [
        | inl low ↦
            let high = highest shows Mate p one best is some.0 some.1 outcomes.Draw some.2 in
            let counts = best_counted shows Mate p one best is in
            ap entry_before (at_draw mate_said_best counts high.0 low)
        | inr high ↦ absurd (no_loss h _ (above_draw mate_said_best (best_counted shows Mate p one best is) high))
      ]

      there : FitsBeside shows Mate p Draw → entry_before mate_said_best ≡ entry_of Draw
      there h = drawn h h.1

      back : entry_before mate_said_best ≡ entry_of Draw → FitsBeside shows Mate p Draw
      back e =
          let s = draw_is_due mate_said_best e in
          let never : (q : Setup) → chess.Move p q → (k : ℕ) → ¬ shows Mate q (Loss k) =
          λ q m k lost.
          let l = least_loss shows Mate p one best is k q m lost in
          let both : Some outcomes.Draw ≡ Some (outcomes.Loss l.0) = sym s ∙ l.1 in
          cc in
          (never, inr (is.next, is.step, best_says shows Mate p one best is outcomes.Draw s))

-- the entry that comes of the best score is due
pub best_is_due : (shows : Shown) (metric : Metric) (p : Setup) → ((q : Setup) → chess.Move p q → IsOne shows q) → Ends chess → (best x : ℕ) → IsBest shows metric p best → ((said : Option Outcome) → IfSome said IsCounted → best ≡ score_of said → x ≡ entry_before said) → IsDue shows metric p x
best_is_due shows metric p one ends best x is due =
    let e : x ≡ entry_before is.reached.said = due is.reached.said (best_counted shows metric p one best is) is.reached.is in
    subst (IsDue shows metric p) (sym e) (record {
      win = win_due shows metric p one best is;
      loss = loss_due shows metric p one best is ends;
      draw = drawn metric is;
    })
  where
    drawn : (metric : Metric) (is : IsBest shows metric p best) → IsDueDraw shows metric p (entry_before is.reached.said)
    drawn Mate is = draw_due shows p one best is
    drawn Zeroing is = tt

-- where there is no step, the entry tells checkmate or stalemate
pub mated_is_due : (shows : Shown) (metric : Metric) (p : Setup) → NoMove chess p → chess.Checkmate p → IsDue shows metric p 3
mated_is_due shows metric p stuck mate = record { win = win; loss = loss; draw = draw metric }
  where
    win : (n : ℕ) → FitsBeside shows metric p (Win n) ↔ (3 ≡ entry_of (Win n))
    win zero = ((λ h. absurd h), (λ e. omega arith))
    win (suc n) = ((λ h. absurd (stuck h.0.0 h.0.1)), (λ e. absurd (omega arith)))

    loss : (n : ℕ) → FitsBeside shows metric p (Loss n) ↔ (3 ≡ entry_of (Loss n))
    loss zero = ((λ h. refl), (λ e. mate))
    loss (suc n) = ((λ h. absurd (stuck h.0.0 h.0.1)), (λ e. absurd (omega arith)))

    over : IsStalemate chess p ⊎ SomeMove chess p (λ q. shows Mate q Draw) → ⊥
    over (inl stale) = stale.1 mate
    over (inr some) = stuck some.0 some.1

    draw : (metric : Metric) → IsDueDraw shows metric p 3
    draw Mate = ((λ h. absurd (over h.1)), (λ e. absurd (omega arith)))
    draw Zeroing = tt

pub stale_is_due : (shows : Shown) (metric : Metric) (p : Setup) → IsStalemate chess p → IsDue shows metric p 1
stale_is_due shows metric p stale = record { win = win; loss = loss; draw = draw metric }
  where
    win : (n : ℕ) → FitsBeside shows metric p (Win n) ↔ (1 ≡ entry_of (Win n))
    win zero = ((λ h. absurd h), (λ e. omega arith))
    win (suc n) = ((λ h. absurd (stale.0 h.0.0 h.0.1)), (λ e. absurd (omega arith)))

    loss : (n : ℕ) → FitsBeside shows metric p (Loss n) ↔ (1 ≡ entry_of (Loss n))
    loss zero = ((λ mate. absurd (stale.1 mate)), (λ e. absurd (omega arith)))
    loss (suc n) = ((λ h. absurd (stale.0 h.0.0 h.0.1)), (λ e. absurd (omega arith)))

    draw : (metric : Metric) → IsDueDraw shows metric p 1
    draw Mate = ((λ h. refl), (λ e. ((λ q m k. absurd (stale.0 q m)), inl stale)))
    draw Zeroing = tt

pub end_is_due : (shows : Shown) (metric : Metric) (p : Setup) (x : ℕ) → NoMove chess p → IsAtEnd p x → IsDue shows metric p x
end_is_due shows metric p x stuck (inl mate) = subst (IsDue shows metric p) (sym mate.1) (mated_is_due shows metric p stuck mate.0)
end_is_due shows metric p x stuck (inr stale) = subst (IsDue shows metric p) (sym stale.1) (stale_is_due shows metric p stale.0)

-- who is not checkmated and has no legal move is stalemated
pub stale_unless_mated : (p : Setup) (s : Standing) → StandsAs p s → (s ≡ Checkmate → ⊥) → NoMove chess p → IsStalemate chess p
stale_unless_mated p Checkmate stands other stuck = absurd (other refl)
stale_unless_mated p Stalemate stands other stuck = (stuck, λ mate. stands.quiet mate.check)
stale_unless_mated p HasMove stands other stuck = absurd (stuck stands.legal.0 (stands.move, stands.legal.1))

pub checkmate_ends : Ends chess
checkmate_ends p mate q step = mate.stuck step.0 (q, step.1)

-- x is the entry that comes of the score
abbrev pub ComesOf : ℕ → ℕ → Type 0
ComesOf best x = (said : Option Outcome) → IfSome said IsCounted → best ≡ score_of said → x ≡ entry_before said

pub both_due : (shows : Shown) (p : Setup) → ((q : Setup) → chess.Move p q → IsOne shows q) → (best due : ByMetric) → ((metric : Metric) → IsBest shows metric p (number_at best metric)) → ComesOf best.mate due.mate → ComesOf best.zeroing due.zeroing → (metric : Metric) → IsDue shows metric p (number_at due metric)
both_due shows p one best due is mate zeroing Mate = best_is_due shows Mate p one checkmate_ends best.mate due.mate (is Mate) mate
both_due shows p one best due is mate zeroing Zeroing = best_is_due shows Zeroing p one checkmate_ends best.zeroing due.zeroing (is Zeroing) zeroing

pub at_end_due : (shows : Shown) (p : Setup) (x : ℕ) → NoMove chess p → IsAtEnd p x → (metric : Metric) → IsDue shows metric p (number_at (record { mate = x; zeroing = x }) metric)
at_end_due shows p x stuck end Mate = end_is_due shows Mate p x stuck end
at_end_due shows p x stuck end Zeroing = end_is_due shows Zeroing p x stuck end
