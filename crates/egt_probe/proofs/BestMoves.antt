-- Moves that are best play.
use Rattle.std.proofs.Common.{◌≡◌, ℕ, zero, suc, List, [], ◌∷◌, Option, Some, None, IfSome, refl, sym, ap, subst}
use Rattle.std.proofs.Common.{arith, inl, inr}
use Rattle.egt_probe.specs.Prelude.{cases_lt, Side, other_side, Setup, Value, Loss, Draw, mate_by}
use Rattle.egt_probe.specs.Prelude.{place_of, Move, best_value, IsBest, Facts, IsHold, IsFirstTo, next_value, IsLine}

-- the move that holds a draw is one
pub best_of_hold : (p : Setup) (m : Option Move) → IsHold p m → IsBest p m
best_of_hold p None hold = inr hold.1
best_of_hold p (Some m) hold = (Draw, Draw, hold.1.0, hold.0, refl, hold.1.1)

best_next : (s w : Side) (n : ℕ) → best_value (mate_by s w (suc n)) ≡ Some (mate_by (other_side s) w n)
best_next s w n = grind arith

-- where a side mates, one leads to a position in which it mates one ply sooner
pub best_is : (s w : Side) (n k : ℕ) → k ≡ suc n → best_value (mate_by s w k) ≡ Some (mate_by (other_side s) w n)
best_is s w n k e = subst (λ (j : ℕ). best_value (mate_by s w j) ≡ Some (mate_by (other_side s) w n)) (sym e) (best_next s w n)

no_value : (v : Value) → ◌≡◌ {A = Option Value} None (Some v) → ⊥
no_value v e = subst (λ (o : Option Value). IfSome o (λ _. ⊥)) e tt

abbrev value_in : Option Value → Value
value_in None = Draw
value_in (Some v) = v

-- where a line goes on, a best move leads to the value that it goes on to
goes_alike : (v w u : Value) → best_value v ≡ Some w → next_value v ≡ Some u → w ≡ u
goes_alike v w u e f = grind (arith, no_value)

-- the first moves to one value stand at one place
one_first : (w : Value) (p q r : Setup) (m n : Move) → IsFirstTo w p m q → IsFirstTo w p n r → place_of n ≡ place_of m
one_first w p q r m n first other = elim (cases_lt (place_of m) (place_of n)) [
  | inl lt ↦ absurd (other.first m q lt first.leads first.value)
  | inr ge ↦ elim (cases_lt (place_of n) (place_of m)) [
    | inl lt ↦ absurd (first.first n r lt other.leads other.value)
    | inr le ↦ omega (arith, ge, le)
  ]
]

module _ (facts : Facts) where
  pub best_begins : (p : Setup) (v : Value) (ms : List Move) (m : Move) → IsLine p v ms → IsBest p (Some m) → (n : Move) × (rest : List Move) × (ms ≡ n ∷ rest) × (place_of n ≡ place_of m)
  best_begins p v [] m line best =
      let mated : best.0 ≡ Loss zero = facts.one_value p best.0 (Loss zero) best.3 line.1 in
      absurd (no_value best.1 (subst (λ (x : Value). best_value x ≡ Some best.1) mated best.4))
  best_begins p v (n ∷ rest) m line best =
      let same : v ≡ best.0 = facts.one_value p v best.0 line.0 best.3 in
      let to : best.1 ≡ line.1.0 = goes_alike best.0 best.1 line.1.0 best.4 (subst (λ (x : Value). next_value x ≡ Some line.1.0) same line.1.2) in
      (n, rest, refl, one_first line.1.0 p best.2 line.1.1 m n (subst (λ (w : Value). IsFirstTo w p m best.2) to best.5) line.1.3)

  pub best_holds : (p : Setup) (n m : Move) → IsHold p (Some n) → IsBest p (Some m) → place_of n ≡ place_of m
  best_holds p n m hold best =
      let drawn : best.0 ≡ Draw = facts.one_value p best.0 Draw best.3 hold.0 in
      let to : best.1 ≡ Draw = sym (ap value_in (subst (λ (x : Value). best_value x ≡ Some best.1) drawn best.4)) in
      one_first Draw p best.2 hold.1.0 m n (subst (λ (w : Value). IsFirstTo w p m best.2) to best.5) hold.1.1
