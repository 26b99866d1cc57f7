-- The ranks of the game of zeroing moves are the zeroing distances of the positions.
use Rattle.std.proofs.Common.{◌≡◌, ℕ, zero, suc, ◌<◌, ◌≤◌, ◌⊎◌, ◌↔◌, Bool, true, IsTrue, Option, Some, None, refl, sym}
use Rattle.std.proofs.Common.{ap, ◌∙◌, subst, inl, inr, arith}
use Rattle.egt_sweep.specs.Prelude.{⊎_elim, false≢true, lt-ltb, Decided, tells, tells_so, tells_where}
use Rattle.egt_sweep.specs.Prelude.{decided_admissible, Setup, IsAdmissible, IsIndex, Value, Win, Loss, Draw, HasMove}
use Rattle.egt_sweep.specs.Prelude.{SomeMove, IsStalemate, HasValue, IsWon, IsLost, IsMatedWithin, MatesWithin}
use Rattle.egt_sweep.specs.Prelude.{AvoidsMateFor, CannotMateWithin, chess, Zeroes, decided_zeroes, Fits, JudgedOver}
use Rattle.egt_sweep.specs.Prelude.{HasZeroing, ZeroesLosingWithin, ZeroesWinningWithin, is_lost_before, is_won_before}
use Rattle.egt_sweep.specs.Prelude.{mated_within, mates_within, decided_within, HasRank, Exit, Mate, Zeroing}
use Rattle.egt_sweep.specs.Prelude.{TableValue, Tables, HasTrueValuesBelow, IsWithinLimit, class_game, GoesOn, Laws}
use Rattle.egt_sweep.specs.Prelude.{ShowsValues, index_in, exit_of, shown_below, Plies}
use Rattle.egt_sweep.proofs.GraphAgrees.{GoesBySteps, agree}
use Rattle.egt_sweep.proofs.Linked.{index_is}
use Rattle.egt_sweep.proofs.Members.{either, or_left, or_right}
use Rattle.egt_sweep.proofs.Shown.{IsShown, own_value, step_value, zeroing_left}

-- a step by which the mover wins: it leads to a lost position, and zeroes or goes on so; and one by which the other side does
abbrev LosesBy : ℕ → (p q : Setup) → chess.Move p q → Type 0
LosesBy n p q m = IsLost chess q × (chess.Zeroes p q m ⊎ ZeroesLosingWithin chess n q)

abbrev WinsBy : ℕ → (p q : Setup) → chess.Move p q → Type 0
WinsBy n p q m = IsWon chess q × (chess.Zeroes p q m ⊎ ZeroesWinningWithin chess n q)

-- whoever wins by zeroing moves wins
winning_is_won : (n : ℕ) (p : Setup) → ZeroesWinningWithin chess n p → IsWon chess p
winning_is_won zero p h = absurd h
winning_is_won (suc n) p (q, m, lost, rest) = (suc lost.0, (q, m, lost.1))

module _ (laws : Laws) (plies : Plies) (tables : Tables) (c : ℕ) (below : c < 36) (children : HasTrueValuesBelow tables c)
    (u : TableValue) (found : tables c ≡ Some u) (class : u.class ≡ c) (values : ShowsValues u) where
  e : Setup → Value
  e q = shown_below tables 36 q

  shown_is_value : (q : Setup) → IsShown tables q → HasValue chess q (e q)
  unfolding e
  shown_is_value q shown = subst (HasValue chess q) (sym shown.2) shown.1

  Own : Setup → Type 0
  Own p = IsAdmissible p × ((i : ℕ) × IsIndex c p i)

  indexed : (p : Setup) → IsAdmissible p → (o : Option ℕ) → o ≡ index_in c p → Decided (Own p)
  unfolding Own
  indexed p ok None is = inr (λ own. let some = (index_is laws c own.1.0 p ok).1 own.1.1 in let x : None ≡ Some own.1.0 = is ∙ some in cc)
  indexed p ok (Some i) is = inl (ok, (i, (index_is laws c i p ok).0 (sym is)))

  decided_own : (p : Setup) → Decided (Own p)
  unfolding Own
  decided_own p = of_admissible (decided_admissible p)
    where
      of_admissible : Decided (IsAdmissible p) → Decided (Own p)
      of_admissible (inl ok) = indexed p ok (index_in c p) refl
      of_admissible (inr not) = inr (λ own. not own.0)

  own : Setup → Bool
  own p = tells (decided_own p)

  own_has_value : (p : Setup) (i : ℕ) → IsAdmissible p → IsIndex c p i → HasValue chess p (e p)
  own_has_value p i ok is = shown_is_value p (own_value laws tables c below children u found class values p i ok is)

  judged : JudgedOver chess (λ p. IsTrue (own p)) e
  unfolding own Own
  judged = laws.facts.rules_by_values own e
      (λ p t. let mine = tells_so (decided_own p) t in own_has_value p mine.1.0 mine.0 mine.1.1)
      (λ p q t m. let mine = tells_so (decided_own p) t in
      inr (shown_is_value q (step_value laws tables c below children u found class values p q m.0 mine.0 (laws.indexed_class p c mine.1.0 mine.0 mine.1.1) m.1)))

  fits : (p : Setup) (i : ℕ) → IsAdmissible p → IsIndex c p i → Fits chess e p (e p)
  unfolding own Own
  fits p i ok is = judged.fits p (tells_where (decided_own p) (ok, (i, is)))

  -- whoever has only moves to won positions has lost: neither a win nor a draw fits beside them
  only_wins : (p : Setup) (i : ℕ) → IsAdmissible p → IsIndex c p i → HasMove chess p → ((q : Setup) → chess.Move p q → IsWon chess q) → IsLost chess p
  unfolding e
  only_wins p i ok is has won = of_value (e p) (own_has_value p i ok is) (fits p i ok is)
    where
      of_value : (v : Value) → HasValue chess p v → Fits chess e p v → IsLost chess p
      of_value (Win zero) h fit = absurd h
      of_value (Win (suc k)) h fit = let next = won h.0.0 h.0.1 in absurd (plies.won_or_lost next.0 k h.0.0 next.1 h.0.2)
      of_value (Loss zero) h fit = (0, h)
      of_value (Loss (suc k)) h fit = (suc k, h.0)
      of_value Draw h fit = ⊎_elim
          (λ (stale : IsStalemate chess p). absurd (stale.0 has.0 has.1))
          (λ (some : SomeMove chess p (λ q. e q ≡ Draw)).
          let shown = step_value laws tables c below children u found class values p some.0 some.1.0 ok (laws.indexed_class p c i ok is) some.1.1 in
          let draw = subst (HasValue chess some.0) (sym shown.2 ∙ some.2) shown.1 in
          let next = won some.0 some.1 in
          absurd (plies.mates_once next.0 some.0 next.1 (draw next.0).1))
          fit.1

  -- so whoever loses by zeroing moves loses
  losing_is_lost : (n i : ℕ) (p : Setup) → IsAdmissible p → IsIndex c p i → ZeroesLosingWithin chess n p → IsLost chess p
  losing_is_lost zero i p ok is mate = (0, mate)
  losing_is_lost (suc n) i p ok is (inl mate) = (0, mate)
  losing_is_lost (suc n) i p ok is (inr play) = only_wins p i ok is play.0 (λ q m. (play.1 q m).0)

  zeroes_off : (p q : Setup) (m : chess.Move p q) → ¬ GoesOn Zeroing c p m.0 q → Decided (Zeroes p m.0) → Zeroes p m.0
  zeroes_off p q m off (inl z) = z
  zeroes_off p q m off (inr quiet) = absurd (off quiet)

  won_exit : (n : ℕ) (q : Setup) (v : Value) → HasValue chess q v → is_won_before (suc n) (exit_of Zeroing v) ≡ true → IsWon chess q
  won_exit n q (Win zero) h t = absurd h
  won_exit n q (Win (suc k)) h t = (suc k, h.0)
  won_exit n q (Loss k) h t = absurd (false≢true t)
  won_exit n q Draw h t = absurd (false≢true t)

  lost_exit : (n : ℕ) (q : Setup) (v : Value) → HasValue chess q v → is_lost_before (suc n) (exit_of Zeroing v) ≡ true → IsLost chess q
  lost_exit n q (Win k) h t = absurd (false≢true t)
  lost_exit n q (Loss zero) h t = (0, h)
  lost_exit n q (Loss (suc k)) h t = (suc k, h.0)
  lost_exit n q Draw h t = absurd (false≢true t)

  won_off : (n : ℕ) (q : Setup) (v : Value) (x : Exit) → HasValue chess q v → x ≡ exit_of Zeroing v → (is_won_before (suc n) x ≡ true) ↔ IsWon chess q
  won_off n q v x has is = (
    λ t. won_exit n q v has (sym (ap (is_won_before (suc n)) is) ∙ t),
    λ won. let least = plies.least_win won.0 q won.1 in
        ap (is_won_before (suc n)) (is ∙ ap (exit_of Zeroing) (plies.one q v (Win least.0) has least.1)) ∙ lt-ltb 0 (suc n) (omega arith),
  )

  lost_off : (n : ℕ) (q : Setup) (v : Value) (x : Exit) → HasValue chess q v → x ≡ exit_of Zeroing v → (is_lost_before (suc n) x ≡ true) ↔ IsLost chess q
  lost_off n q v x has is = (
    λ t. lost_exit n q v has (sym (ap (is_lost_before (suc n)) is) ∙ t),
    λ lost. let least = plies.least_loss lost.0 q lost.1 in
        ap (is_lost_before (suc n)) (is ∙ ap (exit_of Zeroing) (plies.one q v (Loss least.0) has least.1)) ∙ lt-ltb 0 (suc n) (omega arith),
  )

  on_rest : {A B : Type 0} → ¬ A → A ⊎ B → B
  on_rest off (inl a) = absurd (off a)
  on_rest off (inr b) = b

  -- winning by zeroing moves goes by steps
  zeroes_by_steps : GoesBySteps Zeroing c (ZeroesLosingWithin chess) (ZeroesWinningWithin chess) LosesBy WinsBy
  zeroes_by_steps = record {
    loses_now = λ p. (λ h. h, λ h. h);
    loses = λ n p. (λ h. h, λ h. h);
    wins_never = λ p h. h;
    wins = λ n p. (λ h. (h.0, h.1, (h.2, h.3)), λ h. (h.0, h.1, h.2.0, h.2.1));
    on_wins = λ n j p q m on ok is. (λ by. on_rest on by.1, λ h. (winning_is_won n q h, inr h));
    on_loses = λ n j p q m on ok is. (λ by. on_rest on by.1, λ h. (losing_is_lost n j q ok is h, inr h));
    off_wins = λ n p q m v x off has is. let told = won_off n q v x has is in (λ t. (told.0 t, inl (zeroes_off p q m off (decided_zeroes p m.0))), λ by. told.1 by.0);
    off_loses = λ n p q m v x off has is. let told = lost_off n q v x has is in (λ t. (told.0 t, inl (zeroes_off p q m off (decided_zeroes p m.0))), λ by. told.1 by.0);
  }

  agrees : (n i : ℕ) (p : Setup) → IsAdmissible p → IsIndex c p i →
      ((mated_within (class_game tables Zeroing c) n i ≡ true) ↔ ZeroesLosingWithin chess n p) × ((mates_within (class_game tables Zeroing c) n i ≡ true) ↔ ZeroesWinningWithin chess n p)
  agrees n i p ok is = agree laws plies tables Zeroing c below (zeroing_left laws tables c below children u found class values) (ZeroesLosingWithin chess) (ZeroesWinningWithin chess) LosesBy WinsBy zeroes_by_steps n i p ok is

  pub rank_is_distance : (i : ℕ) (p : Setup) (v : Value) → IsAdmissible p → IsIndex c p i → HasRank (class_game tables Zeroing c) i (exit_of Mate v) → HasZeroing chess p v
  rank_is_distance i p (Win zero) ok is h = absurd (false≢true h.0)
  rank_is_distance i p (Win (suc n)) ok is h =
      let wins = (agrees (suc n) i p ok is).1.0 h.0 in
      (winning_is_won (suc n) p wins, wins, λ less. false≢true (sym h.1 ∙ (agrees n i p ok is).1.1 less))
  rank_is_distance i p (Loss zero) ok is h = (agrees 0 i p ok is).0.0 h.0
  rank_is_distance i p (Loss (suc n)) ok is h =
      let loses = (agrees (suc n) i p ok is).0.0 h.0 in
      (losing_is_lost (suc n) i p ok is loses, loses, λ less. false≢true (sym h.1 ∙ (agrees n i p ok is).0.1 less))
  rank_is_distance i p Draw ok is h = λ n. (
    ⊎_elim (λ (mated : IsMatedWithin chess n p). absurd (false≢true (sym (h n).1 ∙ (agrees n i p ok is).0.1 (plies.losing_in_time n p mated)))) (λ (avoids : AvoidsMateFor chess n p). avoids) (plies.mated_or n p),
    ⊎_elim (λ (mates : MatesWithin chess n p). absurd (false≢true (sym (h n).0 ∙ (agrees n i p ok is).1.1 (plies.winning_in_time n p mates)))) (λ (cannot : CannotMateWithin chess n p). cannot) (plies.mates_or n p),
  )

  win_within : (k limit : ℕ) (p : Setup) → HasValue chess p (Win k) → k ≤ limit → ZeroesWinningWithin chess limit p
  win_within zero limit p h le = absurd h
  win_within (suc k) limit p h le = plies.winning_in_time limit p (plies.more_mates (suc k) limit p le h.0)

  loss_within : (k limit : ℕ) (p : Setup) → HasValue chess p (Loss k) → k ≤ limit → ZeroesLosingWithin chess limit p
  loss_within zero limit p h le = plies.losing_in_time limit p (plies.more_mated 0 limit p (omega arith) h)
  loss_within (suc k) limit p h le = plies.losing_in_time limit p (plies.more_mated (suc k) limit p le h.0)

  -- a node that is won or lost is so within the mate distance of its positions
  pub rank_in_time : (n limit i : ℕ) (p : Setup) (v : Value) → IsAdmissible p → IsIndex c p i → HasValue chess p v → IsWithinLimit limit v →
      decided_within (class_game tables Zeroing c) n i ≡ true → decided_within (class_game tables Zeroing c) limit i ≡ true
  rank_in_time n limit i p v ok is has within t = ⊎_elim
      (λ (mates : mates_within (class_game tables Zeroing c) n i ≡ true).
      let won = winning_is_won n p ((agrees n i p ok is).1.0 mates) in
      let least = plies.least_win won.0 p won.1 in
      let le = subst (IsWithinLimit limit) (plies.one p v (Win least.0) has least.1) within in
      or_left (mates_within (class_game tables Zeroing c) limit i) (mated_within (class_game tables Zeroing c) limit i) ((agrees limit i p ok is).1.1 (win_within least.0 limit p least.1 le)))
      (λ (mated : mated_within (class_game tables Zeroing c) n i ≡ true).
      let lost = losing_is_lost n i p ok is ((agrees n i p ok is).0.0 mated) in
      let least = plies.least_loss lost.0 p lost.1 in
      let le = subst (IsWithinLimit limit) (plies.one p v (Loss least.0) has least.1) within in
      or_right (mates_within (class_game tables Zeroing c) limit i) (mated_within (class_game tables Zeroing c) limit i) ((agrees limit i p ok is).0.1 (loss_within least.0 limit p least.1 le)))
      (either (mates_within (class_game tables Zeroing c) n i) (mated_within (class_game tables Zeroing c) n i) t)
