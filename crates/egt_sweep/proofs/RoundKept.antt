-- A round over items, one item more.
use Rattle.std.proofs.Common.{◌≡◌, ◌∙◌, ℕ, ◌+◌, ◌<◌, ◌≤◌, List, length, slice_index_or, slice_set, inl, inr, ap, sym}
use Rattle.std.proofs.Common.{subst, arith}
use Rattle.egt_sweep.specs.FillPrelude.{cases_lt, get_or_default, length-set, set-get_or, TableValue, IsMendedAt}
use Rattle.egt_sweep.specs.FillPrelude.{IsOfKings, AreBothKept, AreFreshItems, IsFreshItem, IsUntouched, IsLookedAt}
use Rattle.egt_sweep.specs.FillPrelude.{IsStamped, IsUnderWay, Filling, Item, Kept, Marks}
use Rattle.egt_sweep.proofs.PutEntries.{mended_after}
use Rattle.egt_sweep.proofs.StillUnderWay.{still_under_way}

-- what holds after the first so many items; where none of them was looked at, all are fresh
abbrev pub Passed : Filling → (first : TableValue) → List Item → (t : TableValue) → (now : List Item) → Marks → Kept → (looks i : ℕ) → Type 0
Passed f first items t now marks kept looks i =
    IsMendedAt f.part (λ k. Unit {0}) first t
    × IsUnderWay f t now marks
    × AreBothKept f t kept
    × (length now ≡ length items)
    × (looks ≤ i)
    × (looks ≡ 0 → AreFreshItems f marks now i)

module _ (f : Filling) (first : TableValue) (items : List Item) (t : TableValue) (now : List Item) (marks : Marks) (kept : Kept) (looks i : ℕ)
    (targeted : Passed f first items t now marks kept looks i) (i_in : i < length now) (here : Item) (at : here ≡ slice_index_or now i here)
    (u : TableValue) (after : Item) (later : Marks) (kept' : Kept) (keeps : AreBothKept f u kept') where
  -- an item that needs no look
  pub left_alone : IsUntouched t u here after marks later → IsFreshItem f marks here → Passed f first items u (slice_set now i after) later kept' looks (i + 1)
  left_alone same fresh =
      let items_same : slice_set now i after ≡ now = ap (slice_set now i) (same.1 ∙ at) ∙ set-get_or now i here in
      subst (λ (l : List Item). Passed f first items u l later kept' looks (i + 1)) (sym items_same)
      (subst (λ (m : Marks). Passed f first items u now m kept' looks (i + 1)) (sym same.2) (
        subst (IsMendedAt f.part (λ k. Unit {0}) first) (sym same.0) targeted.0,
        subst (λ (v : TableValue). IsUnderWay f v now marks) (sym same.0) targeted.1,
        keeps,
        targeted.3,
        (let few = targeted.4 in omega (arith, few)),
        λ none k d under k_in. elim (cases_lt k i) [
          | inl earlier ↦ targeted.5 none k d earlier k_in
          | inr late ↦
              let is : k ≡ i = omega (arith, under, late) in
              subst (IsFreshItem f marks) (at ∙ ap (λ n. slice_index_or now n here) (sym is) ∙ get_or_default now k here d k_in) fresh
        ],
      ))

  -- an item that was looked at
  pub looked_at : f.class < 36 → t.class ≡ f.class → IsLookedAt f t u here after marks.tick → IsStamped here t u marks later → Passed f first items u (slice_set now i after) later kept' (looks + 1) (i + 1)
  looked_at below class look stamp =
      let there : here ≡ slice_index_or now i after = at ∙ get_or_default now i here after i_in in (
        mended_after f.part (λ k. Unit {0}) (IsOfKings t.class here.white here.black here.side) first t u targeted.0 look.mended (λ k of. tt),
        still_under_way f t u now marks later i after below class targeted.1 i_in (subst (λ (item : Item). IsLookedAt f t u item after marks.tick) there look) (subst (λ (item : Item). IsStamped item t u marks later) there stamp),
        keeps,
        length-set now i after ∙ targeted.3,
        (let few = targeted.4 in omega (arith, few)),
        λ none. absurd (omega (arith, none)),
      )
