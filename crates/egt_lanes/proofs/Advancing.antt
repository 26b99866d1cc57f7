-- Rows raised by a pawn's advances.
use Rattle.std.proofs.Common.{◌≡◌, ℕ, ◌<◌, ◌≤◌, ◌==◌, ◌⊎◌, if◌then◌else◌, Bool, true, false, eqb, cond, max, List}
use Rattle.std.proofs.Common.{get_or, refl, ap, ◌∙◌, subst, arith, eqb-true}
use Rattle.egt_lanes.specs.Prelude.{cases_eq, eqb-false, bit_at, Rides, Advances, forward, home_rank}
use Rattle.egt_lanes.specs.Prelude.{rank_of, Away, Side, Step, AdvancesBy, IsRaised}
use Rattle.egt_lanes.proofs.RaisedTwice.{raised_again, raised_among, raised_as, raised_by_none, raised_is}
use Rattle.egt_lanes.proofs.Rays.{IsRidden}
use Rattle.egt_lanes.proofs.Riding.{HasBit, IsShifted, more_ends, one_ride, raised_over, ride_one, ridden_first}

-- a lane of a row kept to a set of squares
pub kept_or_none : (bits t v w : ℕ) → w ≡ (if bit_at bits t == 1 then v else 0) → (HasBit bits t × (w ≡ v)) ⊎ (¬ HasBit bits t × (w ≡ 0))
kept_or_none bits t v w is = grind (arith, eqb-true, eqb-false)

-- so many squares are at most one or two
one_goes : (home : Bool) (n : ℕ) → n ≤ 1 → n ≤ cond home 2 1
one_goes home n few = grind arith

two_go : (home : Bool) → home ≡ true → 2 ≤ cond home 2 1
two_go home is = grind arith

same_count : (side : Side) (n m s t : ℕ) → Away (forward side) n s t → Away (forward side) m s t → n ≡ m
same_count side n m s t a b = grind arith

one_or_two : (n : ℕ) → 0 < n → n ≤ 2 → (n ≡ 1) ⊎ (n ≡ 2)
one_or_two n some few = grind (arith, cases_eq)

module _ (bits : ℕ) (side : Side) (row arrived near : List ℕ) (arrives : (s : ℕ) → s < 64 → get_or arrived s 0 ≡ (if bit_at bits s == 1 then get_or row s 0 else 0)) (first : IsShifted (forward side) arrived near)
    (s : ℕ) (s_in : s < 64) where
  abbrev d : Step
  d = forward side

  abbrev F : ℕ → Type 0
  F = HasBit bits

  abbrev f : ℕ → ℕ
  f t = get_or arrived t 0

  abbrev g : ℕ → ℕ
  g t = get_or row t 0

  abbrev home : Bool
  home = eqb (rank_of s) (home_rank side)

  pub by_one : (low high : ℕ) → high ≡ max low (get_or near s 0) → IsRaised low (λ t. AdvancesBy 1 (HasBit bits) side s t) (λ t. get_or row t 0) high
  by_one low high is =
      raised_over low (get_or near s 0) high (λ t. AdvancesBy 1 F side s t) g
      (raised_as 0 (get_or near s 0) (λ t. Rides F 1 s t d × F t) (λ t. AdvancesBy 1 F side s t) g
      (λ t r. record {
        advances = record { rides = record { count = r.0.count; moves = r.0.moves; within = one_goes home r.0.count r.0.within; away = r.0.away; clear = r.0.clear }; free = r.1 };
        away = ride_one F s t d r.0;
      })
      (λ t r. (one_ride F s t d r.away, r.advances.free))
      (raised_among 0 (get_or near s 0) (λ t. Rides F 1 s t d) F g f (λ t r. kept_or_none bits t (g t) (f t) (arrives t r.away.on_board)) ((ridden_first bits d arrived near first).all s s_in)))
      is

  module _ (homes : ℕ) (stopped far : List ℕ) (stops : (s : ℕ) → s < 64 → get_or stopped s 0 ≡ (if bit_at bits s == 1 then get_or near s 0 else 0)) (second : IsShifted (forward side) stopped far)
      (are_homes : (s : ℕ) → s < 64 → bit_at homes s ≡ (if rank_of s == home_rank side then 1 else 0)) where
    far_raised : IsRaised 0 (λ t. IsRidden F 2 s t d) f (get_or far s 0)
    far_raised = more_ends bits d arrived near stopped far 1 (omega arith) (ridden_first bits d arrived near first).ends stops second s s_in

    -- by two squares, and no fewer
    two_squares : (t : ℕ) → AdvancesBy 2 F side s t → (2 ≤ cond home 2 1) × IsRidden F 2 s t d
    two_squares t r = grind (arith, same_count)

    pub by_two : (low high : ℕ) → high ≡ max low (if bit_at homes s == 1 then get_or far s 0 else 0) → IsRaised low (λ t. AdvancesBy 2 (HasBit bits) side s t) (λ t. get_or row t 0) high
    by_two low high is = go home refl
      where
        value : (b : Bool) → home ≡ b → high ≡ max low (cond (eqb (cond b 1 0) 1) (get_or far s 0) 0)
        value b e = is ∙ ap (λ x. max low (cond (eqb x 1) (get_or far s 0) 0)) (are_homes s s_in ∙ ap (λ b. cond b 1 0) e)

        go : (b : Bool) → home ≡ b → IsRaised low (λ t. AdvancesBy 2 (HasBit bits) side s t) (λ t. get_or row t 0) high
        go true e =
            raised_over low (get_or far s 0) high (λ t. AdvancesBy 2 F side s t) g
            (raised_as 0 (get_or far s 0) (λ t. IsRidden F 2 s t d × F t) (λ t. AdvancesBy 2 F side s t) g
            (λ t r. record {
              advances = record { rides = record { count = 2; moves = omega arith; within = two_go home e; away = r.0.away; clear = r.0.clear }; free = r.1 };
              away = r.0.away;
            })
            (λ t r. ((two_squares t r).1, r.advances.free))
            (raised_among 0 (get_or far s 0) (λ t. IsRidden F 2 s t d) F g f (λ t r. kept_or_none bits t (g t) (f t) (arrives t r.away.on_board)) far_raised))
            (value true e)
        go false e =
            raised_is low low high (λ t. AdvancesBy 2 F side s t) g (let v = value false e in omega (arith, v))
            (raised_by_none low (λ t. AdvancesBy 2 F side s t) g (λ t r. let few = subst (λ b. 2 ≤ cond b 2 1) e (two_squares t r).0 in omega (arith, few)))

-- an advance is by one square or by two
pub one_or_two_squares : (F : ℕ → Type 0) (side : Side) (s t : ℕ) → Advances F side s t → AdvancesBy 1 F side s t ⊎ AdvancesBy 2 F side s t
one_or_two_squares F side s t r = grind (arith, one_or_two, forward)

pub by_either : (F : ℕ → Type 0) (side : Side) (s low mid high : ℕ) (g : ℕ → ℕ) → IsRaised low (λ t. AdvancesBy 1 F side s t) g mid → IsRaised mid (λ t. AdvancesBy 2 F side s t) g high → IsRaised low (λ t. Advances F side s t) g high
by_either F side s low mid high g one two = grind (arith, raised_as, one_or_two_squares, raised_again)
