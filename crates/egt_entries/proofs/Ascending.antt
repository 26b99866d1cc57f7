-- The first of an ascending list to be something is the least.
use Rattle.std.proofs.Common.{◌≡◌, ℕ, ◌<◌, ◌≤◌, inl, inr, List, get_or, length, ◌∙◌, arith}
use Rattle.egt_entries.specs.Prelude.{Contains, IsStrictlyIncreasing, cases_lt, get_or_default, AllPairs-from_increasing}

pub first_is_least : (xs : List ℕ) (P : ℕ → Type 0) (n d : ℕ) → IsStrictlyIncreasing xs → n < length xs → d ≡ get_or xs n d → ((k e : ℕ) → k < n → get_or xs k e ≡ e → ¬ P e)
    → (e : ℕ) → Contains xs e → P e → d ≤ e
first_is_least xs P n d rises inside here before e there holds =
    let k = there.0 in
    let at = there.2 in
    let is : d ≡ get_or xs n e = here ∙ get_or_default xs n d e inside in
    elim (cases_lt k n) [
      | inl less ↦ absurd (before k e less at holds)
      | inr ge ↦ elim (cases_lt n k) [
        | inl after ↦ let above = AllPairs-from_increasing xs rises n k e after there.1 in omega (arith, is, at, above)
        | inr le ↦ let same : n ≡ k = omega (arith, ge, le) in let equal : d ≡ e = is ∙ (rw same at) in omega (arith, equal)
      ]
    ]
