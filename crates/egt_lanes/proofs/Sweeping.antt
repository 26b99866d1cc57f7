-- Rows raised along rays, what is reached carried from square to square: the first man's moves.
use Rattle.std.proofs.Common.{◌≡◌, ◌≢◌, ℕ, ◌+◌, ◌-◌, ◌<◌, ◌≤◌, ◌==◌, ◌⊎◌, if◌then◌else◌, Bool, true, false, eqb, cond}
use Rattle.std.proofs.Common.{max, List, [], get_or, refl, sym, ap, ◌∙◌, subst, inl, inr, arith, eqb-true, length}
use Rattle.std.proofs.Common.{get_or-set_other}
use Rattle.egt_lanes.specs.Prelude.{bit_at, cases_eq, eqb-false, get_or-set_at, set, length-set, Step, Away, Rides, at}
use Rattle.egt_lanes.specs.Prelude.{IsOpen, IsRaised, IsAhead, IsRay}
use Rattle.egt_lanes.proofs.RaisedTwice.{raised_by_none, first_raised, raised_more, raised_as, raised_is}
use Rattle.egt_lanes.proofs.Riding.{raised_over}
use Rattle.egt_lanes.proofs.Rays.{IsRidden, same_end, first_step, more_steps, fewer_steps}

-- ---- one square

-- what is reached from s, of rows f in one lane: nothing past the edge
pub from_edge : (Free : ℕ → Type 0) (d : Step) (s : ℕ) (f : ℕ → ℕ) → s < 64 → ((t : ℕ) → Away d 1 s t → ⊥) → IsRaised 0 (λ t. Rides Free 7 s t d) f 0
from_edge Free d s f s_in none = raised_by_none 0 (λ t. Rides Free 7 s t d) f (λ t r.
    let more : r.count ≡ r.count - 1 + 1 = (let some = r.moves in omega (arith, some)) in
    let h = first_step d (r.count - 1) s t s_in (subst (λ m. Away d m s t) more r.away) in
    none h.0 h.1)

module _ (Free : ℕ → Type 0) (d : Step) (s n : ℕ) (f : ℕ → ℕ) (s_in : s < 64) (next : Away d 1 s n) where
  ride_next : (t : ℕ) → Away d 1 s t → Rides Free 7 s t d
  ride_next t a = record { count = 1; moves = omega arith; within = omega arith; away = a; clear = λ k u some less b. absurd (omega arith) }

  -- a longer one passes n
  beyond : (t : ℕ) → (r : Rides Free 7 s t d) → r.count ≢ 1 → Free n × Rides Free 7 n t d
  beyond t r other =
      let some = r.moves in
      let most = r.within in
      let more : r.count ≡ r.count - 1 + 1 = omega (arith, some) in
      let ridden : IsRidden Free (r.count - 1 + 1) s t d = record { away = subst (λ m. Away d m s t) more r.away; clear = λ k u k_some less b. r.clear k u k_some (omega (arith, less, some)) b } in
      let h = fewer_steps Free (r.count - 1) s n t d s_in (omega (arith, some, other)) next ridden in
      (h.0, record { count = r.count - 1; moves = omega (arith, some, other); within = omega (arith, most); away = h.1.away; clear = h.1.clear })

  -- where n is not free, its row alone
  pub from_stop : ¬ Free n → IsRaised 0 (λ t. Rides Free 7 s t d) f (f n)
  from_stop stop = first_raised n (λ t. Rides Free 7 s t d) f (ride_next n next) (λ t r. elim (cases_eq r.count 1) [
    | inl one ↦ same_end d 1 s t n (subst (λ m. Away d m s t) one r.away) next
    | inr other ↦ absurd (stop (beyond t r other).0)
  ])

  -- else what is reached from n too
  pub from_next : Free n → ((k t : ℕ) → Away d k s t → k ≤ 7) → (v w : ℕ) → IsRaised 0 (λ t. Rides Free 7 n t d) f v → w ≡ max (f n) v → IsRaised 0 (λ t. Rides Free 7 s t d) f w
  from_next free near v w raised is =
      raised_as 0 w (λ t. Rides Free 7 n t d ⊎ Away d 1 s t) (λ t. Rides Free 7 s t d) f
      (λ t either. elim either [
        | inl r ↦
            let further = more_steps Free r.count s n t d s_in next free (record { away = r.away; clear = r.clear }) in
            record { count = r.count + 1; moves = omega arith; within = near (r.count + 1) t further.away; away = further.away; clear = further.clear }
        | inr a ↦ ride_next t a
      ])
      (λ t r. elim (cases_eq r.count 1) [
        | inl one ↦ inr (subst (λ m. Away d m s t) one r.away)
        | inr other ↦ inl (beyond t r other).1
      ])
      (raised_more 0 (f n) v w (λ t. Away d 1 s t) (λ t. Rides Free 7 n t d) f (first_raised n (λ t. Away d 1 s t) f next (λ t a. same_end d 1 s t n a next)) raised is)

-- past a square that is no king's, in the lane b
pub past_square : (kings : ℕ) (d : Step) (upward : Bool) (s n b : ℕ) (f : ℕ → ℕ) → s < 64 → IsRay d upward → Away d 1 s n → bit_at kings n ≡ 0 → (here reached kept v : ℕ) → here ≡ f n
    → IsRaised 0 (λ t. Rides (IsOpen kings b) 7 n t d) f reached → kept ≡ (if b == n then 0 else reached) → v ≡ max here kept → IsRaised 0 (λ t. Rides (IsOpen kings b) 7 s t d) f v
past_square kings d upward s n b f s_in ray next free here reached kept v at_n raised keeps is = by (eqb b n) refl
  where
    by : (t : Bool) → eqb b n ≡ t → IsRaised 0 (λ t. Rides (IsOpen kings b) 7 s t d) f v
    by true e =
        let none : kept ≡ 0 = keeps ∙ ap (λ t. cond t 0 reached) e in
        raised_is 0 (f n) v (λ t. Rides (IsOpen kings b) 7 s t d) f (omega (arith, is, none, at_n)) (from_stop (IsOpen kings b) d s n f s_in next (λ passes. passes.1 (sym (eqb-true b n e))))
    by false e =
        let all : kept ≡ reached = keeps ∙ ap (λ t. cond t 0 reached) e in
        from_next (IsOpen kings b) d s n f s_in next (free, λ same. eqb-false b n e (sym same)) (λ k t a. ray.near k s t s_in a) reached v raised (omega (arith, is, all, at_n))

-- ---- square after square

-- the first k squares, from the last rank down where the step leads upward
abbrev pub IsPast : (upward : Bool) → (k a : ℕ) → Type 0
IsPast true k a = 64 ≤ a + k
IsPast false k a = a < k

abbrev pub nth : (upward : Bool) → ℕ → ℕ
nth true k = 63 - k
nth false k = k

pub nth_is : (upward : Bool) (k : ℕ) → (if upward then 63 - k else k) ≡ nth upward k
nth_is upward k = grind arith

pub record IsSwept (kings : ℕ) (d : Step) (upward : Bool) (rows old out reached : List (List ℕ)) (k : ℕ) : Type 0 where
  pub out_long : length out ≡ 64
  pub reached_long : length reached ≡ 64
  pub known : (a b : ℕ) → a < 64 → b < 64 → IsPast upward k a → IsRaised 0 (λ t. Rides (IsOpen kings b) 7 a t d) (λ t. at rows t b) (at reached a b)
  pub done : (a b : ℕ) → a < 64 → b < 64 → IsPast upward k a → IsRaised (at old a b) (λ t. Rides (IsOpen kings b) 7 a t d) (λ t. at rows t b) (at out a b)
  pub left : (a b : ℕ) → a < 64 → ¬ IsPast upward k a → at out a b ≡ at old a b

-- what comes next on the way is known
pub next_is_past : (upward : Bool) (k n : ℕ) → k < 64 → n < 64 → IsAhead upward (nth upward k) n → IsPast upward k n
next_is_past upward k n k_in n_in ahead = grind arith

pub past_or_here : (upward : Bool) (k a : ℕ) → k < 64 → a < 64 → IsPast upward (k + 1) a → (a ≡ nth upward k) ⊎ IsPast upward k a
past_or_here upward k a k_in a_in past = grind (arith, cases_eq)

pub here_is_past : (upward : Bool) (k : ℕ) → k < 64 → IsPast upward (k + 1) (nth upward k)
here_is_past upward k k_in = grind arith

pub past_more : (upward : Bool) (k a : ℕ) → IsPast upward k a → IsPast upward (k + 1) a
past_more upward k a past = grind arith

pub here_is_new : (upward : Bool) (k : ℕ) → k < 64 → ¬ IsPast upward k (nth upward k)
here_is_new upward k k_in past = grind arith

pub nth_in : (upward : Bool) (k : ℕ) → k < 64 → nth upward k < 64
nth_in upward k k_in = grind arith

module _ (kings : ℕ) (d : Step) (upward : Bool) (rows old out reached : List (List ℕ)) (k : ℕ) (k_in : k < 64) (before : IsSwept kings d upward rows old out reached k) (s : ℕ) (is : s ≡ nth upward k) (row top : List ℕ)
    (found : (b : ℕ) → b < 64 → IsRaised 0 (λ t. Rides (IsOpen kings b) 7 s t d) (λ t. at rows t b) (get_or row b 0)) (raises : (b : ℕ) → b < 64 → get_or top b 0 ≡ max (at out s b) (get_or row b 0)) where
  s_in : s < 64
  s_in = subst (λ m. m < 64) (sym is) (nth_in upward k k_in)

  here_or_past : (a : ℕ) → a < 64 → IsPast upward (k + 1) a → (a ≡ s) ⊎ IsPast upward k a
  here_or_past a a_in past = elim (past_or_here upward k a k_in a_in past) [ inl e ↦ inl (e ∙ sym is) | inr p ↦ inr p ]

  apart : (a : ℕ) → IsPast upward k a → a ≢ s
  apart a past e = here_is_new upward k k_in (subst (IsPast upward k) (e ∙ is) past)

  as_before : (xs : List (List ℕ)) (r : List ℕ) (a b : ℕ) → a ≢ s → at (set xs s r) a b ≡ at xs a b
  as_before xs r a b other = ap (λ x. get_or x b 0) (get_or-set_other xs s a r [] other)

  now_here : (xs : List (List ℕ)) (r : List ℕ) (a b : ℕ) → length xs ≡ 64 → a ≡ s → at (set xs s r) a b ≡ get_or r b 0
  now_here xs r a b long e = ap (λ x. get_or x b 0) (get_or-set_at xs s a r [] e (let inside = s_in in omega (arith, long, inside)))

  Ride : ℕ → ℕ → ℕ → Type 0
  Ride a b t = Rides (IsOpen kings b) 7 a t d

  raised_top : (b : ℕ) → b < 64 → IsRaised (at old s b) (Ride s b) (λ t. at rows t b) (get_or top b 0)
  unfolding Ride
  raised_top b b_in = grind (arith, at, s_in, apart, raised_over)

  pub swept_more : IsSwept kings d upward rows old (set out s top) (set reached s row) (k + 1)
  unfolding Ride
  swept_more = record {
    out_long = length-set {A = List ℕ} out s top ∙ before.out_long;
    reached_long = length-set {A = List ℕ} reached s row ∙ before.reached_long;
    known = λ a b a_in b_in past. elim (here_or_past a a_in past) [
      | inl e ↦ subst (IsRaised 0 (λ t. Rides (IsOpen kings b) 7 a t d) (λ t. at rows t b)) (sym (now_here reached row a b before.reached_long e))
          (subst (λ m. IsRaised 0 (λ t. Rides (IsOpen kings b) 7 m t d) (λ t. at rows t b) (get_or row b 0)) (sym e) (found b b_in))
      | inr p ↦ subst (IsRaised 0 (λ t. Rides (IsOpen kings b) 7 a t d) (λ t. at rows t b)) (sym (as_before reached row a b (apart a p))) (before.known a b a_in b_in p)
    ];
    done = λ a b a_in b_in past. elim (here_or_past a a_in past) [
      | inl e ↦ subst (IsRaised (at old a b) (λ t. Rides (IsOpen kings b) 7 a t d) (λ t. at rows t b)) (sym (now_here out top a b before.out_long e))
          (subst (λ m. IsRaised (at old m b) (λ t. Rides (IsOpen kings b) 7 m t d) (λ t. at rows t b) (get_or top b 0)) (sym e) (raised_top b b_in))
      | inr p ↦ subst (IsRaised (at old a b) (λ t. Rides (IsOpen kings b) 7 a t d) (λ t. at rows t b)) (sym (as_before out top a b (apart a p))) (before.done a b a_in b_in p)
    ];
    left = λ a b a_in not.
        let other : a ≢ s = λ e. not (subst (IsPast upward (k + 1)) (sym (e ∙ is)) (here_is_past upward k k_in)) in
        as_before out top a b other ∙ before.left a b a_in (λ p. not (past_more upward k a p));
  }
