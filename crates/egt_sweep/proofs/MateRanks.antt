-- The ranks of the game of mates are the values of the positions.
use Rattle.std.proofs.Common.{◌≡◌, ◌≢◌, ℕ, zero, suc, ◌<◌, ◌≤◌, ◌↔◌, ◌||◌, Bool, true, false, sym, ap, ◌∙◌, inl, inr}
use Rattle.std.proofs.Common.{arith}
use Rattle.egt_sweep.specs.Prelude.{⊎_elim, false≢true, ltb-true, lt-ltb, cases_lt, Setup, IsAdmissible, IsIndex, Value}
use Rattle.egt_sweep.specs.Prelude.{Win, Loss, Draw, HasValue, IsMatedWithin, MatesWithin, AvoidsMateFor}
use Rattle.egt_sweep.specs.Prelude.{CannotMateWithin, chess, is_lost_before, is_won_before, mated_within, mates_within}
use Rattle.egt_sweep.specs.Prelude.{HasRank, SomeAbove, Exit, Mate, Tables, HasTrueValuesBelow, IsAboveLimit}
use Rattle.egt_sweep.specs.Prelude.{SomeAboveLimit, class_game, IsAt, Laws, exit_of, Plies}
use Rattle.egt_sweep.proofs.GraphAgrees.{GoesBySteps, agree}
use Rattle.egt_sweep.proofs.Linked.{node_at}
use Rattle.egt_sweep.proofs.Members.{either}
use Rattle.egt_sweep.proofs.Shown.{mates_left}

module _ (plies : Plies) where
  before_win : (n : ℕ) (q : Setup) (v : Value) → HasValue chess q v → is_won_before (suc n) (exit_of Mate v) ≡ true → MatesWithin chess n q
  before_win n q (Win zero) h t = absurd h
  before_win n q (Win (suc k)) h t = plies.more_mates (suc k) n q (let lt = ltb-true (suc k) (suc n) t in omega (arith, lt)) h.0
  before_win n q (Loss k) h t = absurd (false≢true t)
  before_win n q Draw h t = absurd (false≢true t)

  before_loss : (n : ℕ) (q : Setup) (v : Value) → HasValue chess q v → is_lost_before (suc n) (exit_of Mate v) ≡ true → IsMatedWithin chess n q
  before_loss n q (Win k) h t = absurd (false≢true t)
  before_loss n q (Loss zero) h t = plies.more_mated 0 n q (omega arith) h
  before_loss n q (Loss (suc k)) h t = plies.more_mated (suc k) n q (let lt = ltb-true (suc k) (suc n) t in omega (arith, lt)) h.0
  before_loss n q Draw h t = absurd (false≢true t)

  won_within : (n : ℕ) (q : Setup) (v : Value) (e : Exit) → HasValue chess q v → e ≡ exit_of Mate v → (is_won_before (suc n) e ≡ true) ↔ MatesWithin chess n q
  won_within n q v e h is = (
    λ t. before_win n q v h (sym (ap (is_won_before (suc n)) is) ∙ t),
    λ mates. let least = plies.least_win n q mates in
        let same = plies.one q v (Win least.0) h least.1 in
        let le = least.2 in
        ap (is_won_before (suc n)) (is ∙ ap (exit_of Mate) same) ∙ lt-ltb least.0 (suc n) (omega (arith, le)),
  )

  lost_within : (n : ℕ) (q : Setup) (v : Value) (e : Exit) → HasValue chess q v → e ≡ exit_of Mate v → (is_lost_before (suc n) e ≡ true) ↔ IsMatedWithin chess n q
  lost_within n q v e h is = (
    λ t. before_loss n q v h (sym (ap (is_lost_before (suc n)) is) ∙ t),
    λ mated. let least = plies.least_loss n q mated in
        let same = plies.one q v (Loss least.0) h least.1 in
        let le = least.2 in
        ap (is_lost_before (suc n)) (is ∙ ap (exit_of Mate) same) ∙ lt-ltb least.0 (suc n) (omega (arith, le)),
  )

  -- forced mate goes by steps
  mates_by_steps : (c : ℕ) → GoesBySteps Mate c (IsMatedWithin chess) (MatesWithin chess) (λ n p q m. IsMatedWithin chess n q) (λ n p q m. MatesWithin chess n q)
  mates_by_steps c = record {
    loses_now = λ p. (λ h. h, λ h. h);
    loses = λ n p. (λ h. h, λ h. h);
    wins_never = λ p h. h;
    wins = λ n p. (λ h. h, λ h. h);
    on_wins = λ n j p q m on ok is. (λ h. h, λ h. h);
    on_loses = λ n j p q m on ok is. (λ h. h, λ h. h);
    off_wins = λ n p q m v e off has is. won_within n q v e has is;
    off_loses = λ n p q m v e off has is. lost_within n q v e has is;
  }

module _ (laws : Laws) (plies : Plies) (tables : Tables) (c : ℕ) (below : c < 36) (children : HasTrueValuesBelow tables c) where
  agrees : (n i : ℕ) (p : Setup) → IsAdmissible p → IsIndex c p i →
      ((mated_within (class_game tables Mate c) n i ≡ true) ↔ IsMatedWithin chess n p) × ((mates_within (class_game tables Mate c) n i ≡ true) ↔ MatesWithin chess n p)
  agrees n i p ok is = agree laws plies tables Mate c below (mates_left laws tables c below children) (IsMatedWithin chess) (MatesWithin chess) (λ k x q m. IsMatedWithin chess k q) (λ k x q m. MatesWithin chess k q) (mates_by_steps plies c) n i p ok is

  pub rank_is_value : (i : ℕ) (p : Setup) (v : Value) → IsAdmissible p → IsIndex c p i → HasRank (class_game tables Mate c) i (exit_of Mate v) → HasValue chess p v
  rank_is_value i p (Win zero) ok is h = absurd (false≢true h.0)
  rank_is_value i p (Win (suc n)) ok is h =
      ((agrees (suc n) i p ok is).1.0 h.0, ⊎_elim (λ (mates : MatesWithin chess n p). absurd (false≢true (sym h.1 ∙ (agrees n i p ok is).1.1 mates))) (λ (cannot : CannotMateWithin chess n p). cannot) (plies.mates_or n p))
  rank_is_value i p (Loss zero) ok is h = (agrees 0 i p ok is).0.0 h.0
  rank_is_value i p (Loss (suc n)) ok is h =
      ((agrees (suc n) i p ok is).0.0 h.0, ⊎_elim (λ (mated : IsMatedWithin chess n p). absurd (false≢true (sym h.1 ∙ (agrees n i p ok is).0.1 mated))) (λ (avoids : AvoidsMateFor chess n p). avoids) (plies.mated_or n p))
  rank_is_value i p Draw ok is h = λ n. (
    ⊎_elim (λ (mated : IsMatedWithin chess n p). absurd (false≢true (sym (h n).1 ∙ (agrees n i p ok is).0.1 mated))) (λ (avoids : AvoidsMateFor chess n p). avoids) (plies.mated_or n p),
    ⊎_elim (λ (mates : MatesWithin chess n p). absurd (false≢true (sym (h n).0 ∙ (agrees n i p ok is).1.1 mates))) (λ (cannot : CannotMateWithin chess n p). cannot) (plies.mates_or n p),
  )

  neither : (a b : Bool) → (a || b) ≡ false → (a ≢ true) × (b ≢ true)
  neither h0 b e = grind (arith, false≢true)

  -- a node of a rank above the limit has a position of a mate distance above it
  pub above_limit : (limit : ℕ) → SomeAbove (class_game tables Mate c) limit → SomeAboveLimit c limit
  above_limit limit (i, node, some, none) = ⊎_elim
      (λ (mates : mates_within (class_game tables Mate c) some.0 i ≡ true).
      let least = plies.least_win some.0 p ((agrees some.0 i p ok is).1.0 mates) in
      found (Win least.0) least.1 (elim (cases_lt limit least.0) [ inl lt ↦ lt | inr le ↦ absurd (not.0 ((agrees limit i p ok is).1.1 (reached_win least.0 le least.1))) ]))
      (λ (mated : mated_within (class_game tables Mate c) some.0 i ≡ true).
      let least = plies.least_loss some.0 p ((agrees some.0 i p ok is).0.0 mated) in
      found (Loss least.0) least.1 (elim (cases_lt limit least.0) [ inl lt ↦ lt | inr le ↦ absurd (not.1 ((agrees limit i p ok is).0.1 (reached_loss least.0 le least.1))) ]))
      (either (mates_within (class_game tables Mate c) some.0 i) (mated_within (class_game tables Mate c) some.0 i) some.1)
    where
      at : (q : Setup) × IsAt c i q
      at = node_at laws c i node.not_void

      p : Setup
      p = at.0

      ok : IsAdmissible p
      ok = at.1.spells.admissible

      is : IsIndex c p i
      is = at.1.index

      found : (v : Value) → HasValue chess p v → IsAboveLimit limit v → SomeAboveLimit c limit
      found v has above = let own = laws.indexed_class p c i ok is in record { position = p; admissible = ok; flipped = own.0; of = own.1; value = v; has_value = has; above = above }

      not : (mates_within (class_game tables Mate c) limit i ≢ true) × (mated_within (class_game tables Mate c) limit i ≢ true)
      not = neither (mates_within (class_game tables Mate c) limit i) (mated_within (class_game tables Mate c) limit i) none

      reached_win : (k : ℕ) → k ≤ limit → HasValue chess p (Win k) → MatesWithin chess limit p
      reached_win zero le h = absurd h
      reached_win (suc k) le h = plies.more_mates (suc k) limit p le h.0

      reached_loss : (k : ℕ) → k ≤ limit → HasValue chess p (Loss k) → IsMatedWithin chess limit p
      reached_loss zero le h = plies.more_mated 0 limit p (omega arith) h
      reached_loss (suc k) le h = plies.more_mated (suc k) limit p le h.0
