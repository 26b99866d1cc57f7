-- Steps one after another.
use Rattle.std.proofs.Common.{◌≡◌, ℕ, zero, suc, ◌+◌, ◌*◌, ◌-◌, ◌/◌, ◌%◌, ◌<◌, ◌⊎◌, refl, subst, inl, inr, arith}
use Rattle.egt_lanes.specs.Prelude.{cases_lt, cases_eq, Way, Up, Down, Still, Step, Further, file_of, rank_of, Away}
use Rattle.egt_lanes.specs.Prelude.{Rides}

-- ---- files and ranks

first_coordinate : (way : Way) (n w a b : ℕ) → a < 8 → b < 8 → Further way ((n + 1) * w) a b → (m : ℕ) × (m < 8) × Further way (1 * w) a m × Further way (n * w) m b
first_coordinate Up n w a b a_in b_in h = (a + w, omega arith, omega arith, omega arith)
first_coordinate Down n w a b a_in b_in h = (b + n * w, omega arith, omega arith, omega arith)
first_coordinate Still n w a b a_in b_in h = (a, a_in, refl, h)

both_coordinates : (way : Way) (n w a m b : ℕ) → Further way (1 * w) a m → Further way (n * w) m b → Further way ((n + 1) * w) a b
both_coordinates way n w a m b p q = grind arith

same_coordinate : (way : Way) (n a b b' : ℕ) → Further way n a b → Further way n a b' → b ≡ b'
same_coordinate way n a b b' p q = grind arith

next_coordinate : (way : Way) (n a : ℕ) → a < 8 → ((b : ℕ) × (b < 8) × Further way n a b) ⊎ ((b : ℕ) → b < 8 → Further way n a b → ⊥)
next_coordinate Up n a a_in = elim (cases_lt (a + n) 8) [ inl l ↦ inl (a + n, l, refl) | inr g ↦ inr (λ b b_in h. omega arith) ]
next_coordinate Down n a a_in = elim (cases_lt a n) [ inl l ↦ inr (λ b b_in h. omega arith) | inr g ↦ inl (a - n, omega arith, omega arith) ]
next_coordinate Still n a a_in = inl (a, a_in, refl)

-- ---- squares

abbrev square : ℕ → ℕ → ℕ
square file rank = 8 * rank + file

away_at : (d : Step) (n s file rank : ℕ) → file < 8 → rank < 8 → Further d.files (n * d.wide) (file_of s) file → Further d.ranks (n * d.high) (rank_of s) rank → Away d n s (square file rank)
away_at d n s file rank file_in rank_in across along = grind arith

away_from : (d : Step) (n file rank t : ℕ) → file < 8 → t < 64 → Further d.files (n * d.wide) file (file_of t) → Further d.ranks (n * d.high) rank (rank_of t) → Away d n (square file rank) t
away_from d n file rank t file_in t_in across along = grind arith

pub first_step : (d : Step) (n s t : ℕ) → s < 64 → Away d (n + 1) s t → (u : ℕ) × Away d 1 s u × Away d n u t
first_step d n s t s_in a =
    let t_in = a.on_board in
    let f = first_coordinate d.files n d.wide (s % 8) (t % 8) (omega arith) (omega arith) a.across in
    let r = first_coordinate d.ranks n d.high (s / 8) (t / 8) (omega arith) (omega arith) a.along in
    (square f.0 r.0, away_at d 1 s f.0 r.0 f.1 r.1 f.2 r.2, away_from d n f.0 r.0 t f.1 t_in f.3 r.3)

pub both_steps : (d : Step) (n s u t : ℕ) → Away d 1 s u → Away d n u t → Away d (n + 1) s t
both_steps d n s u t a b = grind (arith, both_coordinates)

pub same_end : (d : Step) (n s t t' : ℕ) → Away d n s t → Away d n s t' → t ≡ t'
same_end d n s t t' a b = grind (arith, same_coordinate)

pub next_square : (d : Step) (s : ℕ) → s < 64 → ((u : ℕ) × Away d 1 s u) ⊎ ((u : ℕ) → Away d 1 s u → ⊥)
next_square d s s_in =
    elim (next_coordinate d.files (1 * d.wide) (s % 8) (omega arith)) [
      | inr none ↦ inr (λ u a. none (u % 8) (omega arith) a.across)
      | inl f ↦ elim (next_coordinate d.ranks (1 * d.high) (s / 8) (omega arith)) [
        | inr none ↦ inr (λ u a. let u_in = a.on_board in none (u / 8) (omega arith) a.along)
        | inl r ↦ inl (square f.0 r.0, away_at d 1 s f.0 r.0 f.1 r.1 f.2 r.2)
      ]
    ]

-- ---- from the other end

-- ---- rays

-- t is exactly n of these steps away, and each square before it is free
pub record IsRidden (Free : ℕ → Type 0) (n s t : ℕ) (d : Step) : Type 0 where
  pub away : Away d n s t
  pub clear : (k u : ℕ) → 0 < k → k < n → Away d k s u → Free u

pub one_step : (Free : ℕ → Type 0) (s t : ℕ) (d : Step) → Away d 1 s t → IsRidden Free 1 s t d
one_step Free s t d a = record { away = a; clear = λ k u some less a'. absurd (omega arith) }

pub more_steps : (Free : ℕ → Type 0) (n s u t : ℕ) (d : Step) → s < 64 → Away d 1 s u → Free u → IsRidden Free n u t d → IsRidden Free (n + 1) s t d
more_steps Free n s u t d s_in a free r = record {
  away = both_steps d n s u t a r.away;
  clear = clear;
}
  where
    clear : (k v : ℕ) → 0 < k → k < n + 1 → Away d k s v → Free v
    clear zero v some less b = absurd (omega arith)
    clear (suc k) v some less b = elim (cases_eq k 0) [
      | inl e ↦
          let one : suc k ≡ 1 = omega arith in
          subst Free (same_end d 1 s u v a (subst (λ m. Away d m s v) one b)) free
      | inr n ↦
          let more : suc k ≡ k + 1 = omega arith in
          let f = first_step d k s v s_in (subst (λ m. Away d m s v) more b) in
          r.clear k v (omega arith) (omega arith) (subst (λ w. Away d k w v) (same_end d 1 s f.0 u f.1 a) f.2)
    ]

pub fewer_steps : (Free : ℕ → Type 0) (n s u t : ℕ) (d : Step) → s < 64 → 0 < n → Away d 1 s u → IsRidden Free (n + 1) s t d → Free u × IsRidden Free n u t d
fewer_steps Free n s u t d s_in some a r =
    let f = first_step d n s t s_in r.away in (
      r.clear 1 u (omega arith) (omega arith) a,
      record {
        away = subst (λ w. Away d n w t) (same_end d 1 s f.0 u f.1 a) f.2;
        clear = λ k v k_some less b. r.clear (k + 1) v (omega arith) (omega arith) (both_steps d k s u v a b);
      },
    )

-- within one more step
pub Rides-more : (Free : ℕ → Type 0) (n s t : ℕ) (d : Step) → IsRidden Free (n + 1) s t d ⊎ Rides Free n s t d → Rides Free (n + 1) s t d
Rides-more Free n s t d either = grind arith

pub Rides-last : (Free : ℕ → Type 0) (n s t : ℕ) (d : Step) → Rides Free (n + 1) s t d → IsRidden Free (n + 1) s t d ⊎ Rides Free n s t d
Rides-last Free n s t d r = elim (cases_eq r.count (n + 1)) [
  | inl e ↦ inl record { away = subst (λ m. Away d m s t) e r.away; clear = λ k u some less a. r.clear k u some (omega arith) a }
  | inr other ↦ inr record { count = r.count; moves = r.moves; within = omega (arith, r.within); away = r.away; clear = r.clear }
]

pub Rides-none : (Free : ℕ → Type 0) (s t : ℕ) (d : Step) → Rides Free 0 s t d → ⊥
Rides-none Free s t d r = let some = r.moves in let most = r.within in omega arith
