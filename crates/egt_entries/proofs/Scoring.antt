-- The scores of what entries show.
use Rattle.std.proofs.Common.{◌≡◌, ◌≢◌, ℕ, ◌-◌, ◌/◌, ◌%◌, ◌<◌, ◌≤◌, leb, Option, Some, None, arith, inl, inr}
use Rattle.egt_entries.specs.Prelude.{cases_eq, cases_lt, Win, Loss, Draw, Outcome, IsShownBy, is_decisive, score_of}
use Rattle.egt_index.specs.Prelude.{nat_tests}
use Rattle.egt_entries.specs.declared.outcome.Outcome.TheVariants as outcomes

-- an entry from 3 to 64,003 shows something
shows_some : (x : ℕ) → 2 < x → x ≤ 64003 → ¬ IsShownBy x None
shows_some x long short none = grind (arith, none (Win (x / 2 - 1)), none (Loss (x / 2 - 1)))

pub told_decisive : (x : ℕ) → 2 < x → (said : Option Outcome) → IsShownBy x said → leb x 64003 ≡ is_decisive said
told_decisive x long None none = grind (arith, nat_tests, none (Win (x / 2 - 1)), none (Loss (x / 2 - 1)))
told_decisive x long (Some o) shown = grind (arith, nat_tests)

pub even_score : (x : ℕ) → 2 < x → x ≤ 64003 → x % 2 ≡ 0 → (said : Option Outcome) → IsShownBy x said → x / 2 - 1 ≡ score_of said
even_score x long short even None none = absurd (shows_some x long short none)
even_score x long short even (Some o) shown = grind (arith, nat_tests)

pub odd_score : (x : ℕ) → 2 < x → x ≤ 64003 → x % 2 ≢ 0 → (said : Option Outcome) → IsShownBy x said → 65000 - (x / 2 - 1) ≡ score_of said
odd_score x long short odd None none = absurd (shows_some x long short none)
odd_score x long short odd (Some o) shown = grind (arith, nat_tests)

-- the entry of a draw shows one
pub draw_score : (x : ℕ) → x ≡ 1 → (said : Option Outcome) → IsShownBy x said → 32002 ≡ score_of said
draw_score x is None none = absurd (none Draw (tt, is))
draw_score x is (Some o) shown = grind (arith, nat_tests)

low_none : (x : ℕ) → x ≢ 1 → x ≤ 2 → IsShownBy x None
low_none x other low v shown = grind (arith, nat_tests)

far_none : (x : ℕ) → 64003 < x → IsShownBy x None
far_none x far v shown = grind (arith, nat_tests)

shown_decisive : (x : ℕ) → 2 < x → x ≤ 64003 → (said : Option Outcome) × IsShownBy x said
shown_decisive x long short = elim (cases_eq (x % 2) 0) [
  | inl even ↦ (Some (outcomes.Win (x / 2 - 1)), grind (arith, nat_tests))
  | inr odd ↦ (Some (outcomes.Loss (x / 2 - 1)), grind (arith, nat_tests))
]

-- each entry shows something, or nothing
pub told : (x : ℕ) → (said : Option Outcome) × IsShownBy x said
told x = elim (cases_eq x 1) [
  | inl draw ↦ (Some outcomes.Draw, (tt, draw))
  | inr other ↦ elim (cases_lt 2 x) [
    | inl long ↦ elim (cases_lt 64003 x) [
      | inl far ↦ (None, far_none x far)
      | inr short ↦ shown_decisive x long short
    ]
    | inr low ↦ (None, low_none x other low)
  ]
]
