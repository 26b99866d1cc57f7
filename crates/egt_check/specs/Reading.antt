-- The value that an entry shows, as a function.
use Rattle.std.proofs.Common.{◌≡◌, ◌≢◌, ℕ, ◌/◌, ◌%◌, ◌-◌, ◌≤◌, inl, inr, arith}
use Rattle.egt_moves.specs.Prelude.{cases_eq, cases_lt, Decided, Value, Win, Loss, Draw}
use Rattle.egt_entries.specs.Prelude.{IsShort}
use Rattle.egt_entries.specs.Entry.{Shows}

-- an entry that is not 0, not 2 and at most 64,003 shows a value
pub in_range : (x : ℕ) → x ≢ 0 → x ≢ 2 → x ≤ 64003 → (v : Value) × Shows x v
in_range x not_void not_two le = elim (cases_eq x 1) [
  | inl one ↦ (Draw, (tt, one))
  | inr not_one ↦ elim (cases_eq (x % 2) 0) [
    | inl even ↦ (Win (x / 2 - 1), ((omega arith, omega arith), omega arith))
    | inr odd ↦ (Loss ((x - 3) / 2), (omega arith, omega arith))
  ]
]

-- and one that shows a value is such
pub shown_range : (x : ℕ) (v : Value) → Shows x v → (x ≢ 0) × (x ≢ 2) × (x ≤ 64003)
shown_range x v s = grind arith

-- no entry shows two values
pub shown_once : (x : ℕ) (v w : Value) → Shows x v → Shows x w → v ≡ w
shown_once x v w s t = grind arith

-- whether it shows one can be told
told : (x : ℕ) → Decided ((v : Value) × Shows x v)
told x = elim (cases_eq x 0) [
  | inl void ↦ inr (λ s. (shown_range x s.0 s.1).0 void)
  | inr not_void ↦ elim (cases_eq x 2) [
    | inl two ↦ inr (λ s. (shown_range x s.0 s.1).1 two)
    | inr not_two ↦ elim (cases_lt 64003 x) [
      | inl high ↦ inr (λ s. let le = (shown_range x s.0 s.1).2 in omega (arith, le, high))
      | inr le ↦ inl (in_range x not_void not_two le)
    ]
  ]
]

-- the value that it shows, or a draw
value_told : {x : ℕ} → Decided ((v : Value) × Shows x v) → Value
value_told (inl shown) = shown.0
value_told (inr nothing) = Draw

pub read : ℕ → Value
read x = value_told (told x)

pub read_shown : (x : ℕ) (v : Value) → Shows x v → read x ≡ v
unfolding read value_told
read_shown x v s = of_told (told x)
  where
    of_told : (d : Decided ((w : Value) × Shows x w)) → value_told d ≡ v
    of_told (inl shown) = shown_once x shown.0 v shown.1 s
    of_told (inr nothing) = absurd (nothing (v, s))

-- an entry has room for what is read of one
told_short : (x : ℕ) (d : Decided ((v : Value) × Shows x v)) → IsShort (value_told d)
unfolding value_told
told_short x (inl shown) = shown.1.0
told_short x (inr nothing) = tt

pub read_short : (x : ℕ) → IsShort (read x)
unfolding read
read_short x = told_short x (told x)
