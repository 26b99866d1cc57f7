-- The indexes to which the moves of a list lead, one move after the other.
use Rattle.std.proofs.Common.{◌≡◌, ℕ, ◌+◌, ◌<◌, ◌≤◌, ◌⊎◌, ◌↔◌, inl, inr, Bool, true, false, IsTrue, List, [], get_or}
use Rattle.std.proofs.Common.{length, Some, sym, subst, arith, ◌∙◌}
use Rattle.egt_sweep.specs.Prelude.{Contains, IsStrictlyIncreasing, ⊎_map, cases_lt, false≢true, get_or_default, Setup}
use Rattle.egt_sweep.specs.Prelude.{IsAdmissible, IsIndex, Leads, IsLegal, Move, Metric, Unmove, IsAt, GoesOn, LeadsOn}
use Rattle.egt_sweep.specs.Prelude.{Connects, GoesBack, ComesFrom, Laws}

-- a listed move is legal
pub listed_is_legal : (p : Setup) (moves listed : List Move) (n : ℕ) (m : Move) → n < length moves → m ≡ get_or moves n m → moves ≡ listed → ((x : Move) → Contains listed x ↔ IsLegal p x) → IsLegal p m
listed_is_legal p moves listed n m inside here same legal = (legal m).0 (subst (λ ms. Contains ms m) same (n, inside, sym here))

-- one of the first n elements gives k
unfoldable pub Collected : {X : Type 0} → (X → ℕ → Type 0) → List X → ℕ → ℕ → Type 0
Collected {X} gives xs n k = (x : X) × (has : Contains xs x) × (has.0 < n) × gives x k

module _ {X : Type 0} (gives : X → ℕ → Type 0) (xs : List X) where
  pub collected_none : (k : ℕ) → Collected gives xs 0 k → ⊥
  unfolding Collected
  collected_none k found = omega (arith, found.2)

  collected_last : (n : ℕ) (x : X) (k : ℕ) → n < length xs → x ≡ get_or xs n x → Collected gives xs (n + 1) k → Collected gives xs n k ⊎ gives x k
  unfolding Collected
  collected_last n x k inside here found = elim (cases_lt found.1.0 n) [
    | inl before ↦ inl (found.0, found.1, before, found.3)
    | inr ge ↦
        let last : found.1.0 ≡ n = (let lt = found.2 in omega (arith, lt, ge)) in
        let same : x ≡ found.0 = here ∙ get_or_default xs n x found.0 inside ∙ subst (λ j. get_or xs j found.0 ≡ found.0) last found.1.2 in
        inr (subst (λ y. gives y k) (sym same) found.3)
  ]

  pub collected_more : (n : ℕ) (x : X) (k : ℕ) → n < length xs → x ≡ get_or xs n x → Collected gives xs (n + 1) k ↔ (Collected gives xs n k ⊎ gives x k)
  unfolding Collected
  collected_more n x k inside here = (
    collected_last n x k inside here,
    λ h. elim h [
      | inl found ↦ (found.0, found.1, omega (arith, found.2), found.3)
      | inr given ↦ (x, (n, inside, sym here), omega arith, given)
    ],
  )

  -- all of them
  pub collected_all : (n k : ℕ) → length xs ≤ n → Collected gives xs n k ↔ ((x : X) × Contains xs x × gives x k)
  unfolding Collected
  collected_all n k all = (λ found. (found.0, found.1, found.3), λ h. (h.0, h.1, omega (arith, h.1.1, all), h.2))

module _ (laws : Laws) (metric : Metric) (c : ℕ) (p : Setup) where
  one_next : (m : Move) (q r : Setup) → Leads p m q → Leads p m r → q ≡ r
  one_next m q r here there = let same : Some q ≡ Some r = sym ((laws.played p q m).0 here) ∙ (laws.played p r m).0 there in cc

  -- the move that goes on leads on to one index
  pub leads_on_once : (m : Move) (q : Setup) (i k : ℕ) → IsAdmissible p → Leads p m q → GoesOn metric c p m q → IsIndex c q i → (k ≡ i) ↔ LeadsOn metric c p m k
  leads_on_once m q i k ok leads on is = (
    λ e. (q, leads, on, subst (IsIndex c q) (sym e) is),
    λ led. let same = one_next m led.0 q led.1 leads in
        laws.facts.one_index q c k i (laws.facts.step_admissible p q m ok leads) (subst (λ x. IsIndex c x k) same led.3) is,
  )

  -- one that does not go on leads on to none
  pub leads_on_never : (m : Move) (q : Setup) (k : ℕ) → Leads p m q → ¬ GoesOn metric c p m q → LeadsOn metric c p m k → ⊥
  leads_on_never m q k leads off led = off (subst (GoesOn metric c p m) (one_next m led.0 q led.1 leads) led.2)

  -- the edges of the index are where the legal moves lead on to
  pub edges_collected : (moves listed : List Move) (i k : ℕ) → moves ≡ listed → ((m : Move) → Contains listed m ↔ IsLegal p m) → IsAt c i p → ((m : Move) × Contains moves m × LeadsOn metric c p m k) ↔ Connects metric c i k
  edges_collected moves listed i k same legal at = (λ found. record { from = p; at = at; move = found.0; to = found.2.0; leads = found.2.1; on = found.2.2; index = found.2.3 }, found_back)
    where
      found_back : Connects metric c i k → (m : Move) × Contains moves m × LeadsOn metric c p m k
      found_back edge =
          let e : edge.from ≡ p = laws.one_spelled c i edge.from p edge.at.spells at.spells in
          let leads = subst (λ x. Leads x edge.move edge.to) e edge.leads in
          let on = subst (λ x. GoesOn metric c x edge.move edge.to) e edge.on in
          let has = subst (λ ms. Contains ms edge.move) (sym same) ((legal edge.move).1 (edge.to, leads)) in
          (edge.move, has, (edge.to, leads, on, edge.index))

-- a member more, or none
pub members_on : {A B P Q : Type 0} → (A ↔ (B ⊎ P)) → (P ↔ Q) → A ↔ (B ⊎ Q)
members_on there same = (λ a. ⊎_map (λ b. b) same.0 (there.0 a), λ h. there.1 (⊎_map (λ b. b) same.1 h))

pub members_off : {B Q : Type 0} → (Q → ⊥) → B ↔ (B ⊎ Q)
members_off never = (λ b. inl b, λ h. elim h [ inl b ↦ b | inr q ↦ absurd (never q) ])

-- what a test denies does not hold
pub untrue : {P : Type 0} (b : Bool) → b ≡ false → (IsTrue b ↔ P) → ¬ P
untrue h0 e is = grind (arith, false≢true)

-- members that grow as what they are to be does
pub members_then : {A B M N P : Type 0} → (A ↔ (B ⊎ P)) → (B ↔ M) → (N ↔ (M ⊎ P)) → A ↔ N
members_then grown same next = (λ a. next.1 (⊎_map same.0 (λ p. p) (grown.0 a)), λ n. grown.1 (⊎_map same.1 (λ p. p) (next.0 n)))

pub none_ascend : IsStrictlyIncreasing []
none_ascend k lt = absurd (omega (arith, lt))

-- a list of which nothing was collected
pub collected_start : {X : Type 0} (gives : X → ℕ → Type 0) (xs : List X) (list : List ℕ) → list ≡ [] →
    IsStrictlyIncreasing list × (length list ≤ 0) × ((k : ℕ) → Contains list k ↔ Collected gives xs 0 k)
collected_start gives xs list empty = grind (arith, none_ascend, collected_none)

-- what comes from unmoves one goes back by
pub back_on : (metric : Metric) (c : ℕ) (u : Unmove) (i k : ℕ) → GoesBack metric u → IsIndex c u.before i → ((j : ℕ) → IsIndex c u.before j → j ≡ i) → (k ≡ i) ↔ ComesFrom metric c u k
back_on metric c u i k goes is one = (λ e. (goes, subst (IsIndex c u.before) (sym e) is), λ from. one k from.1)
