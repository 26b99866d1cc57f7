-- Lanes picked at constant positions.
use Rattle.std.proofs.Common.{◌≡◌, ℕ, ◌-◌, ◌<◌, ◌≤◌, eqb, leb, T, List, ◌++◌, length, get_or, replicate, sym, ap, ◌∙◌, inl, inr, arith, leb-true}
use Rattle.std.proofs.lemmas.Bool.{cases_lt}
use Rattle.std.proofs.lemmas.List.{get_or-map, get_or_append_left, get_or-append_right, get_or_past}
use lib.Lanes.{pick_l}
use Rattle.egt_lanes.proofs.Tests.{passes_below, passed, is_true, agreed}

-- a row of 64 picked at positions that a function of the square gives
pub picked : (xs ys ks : List ℕ) (f : ℕ → ℕ) → length xs ≡ 64 → length ks ≡ 64 → T (passes_below (λ s. eqb (get_or ks s 0) (f s)) 64)
    → (s : ℕ) → s < 64 → f s < 64 → get_or (pick_l 0 (xs ++ ys) ks) s 0 ≡ get_or xs (f s) 0
picked xs ys ks f long all same s s_in within =
    get_or-map (λ k. get_or (xs ++ ys) k 0) ks s 0 0 (omega arith)
    ∙ ap (λ k. get_or (xs ++ ys) k 0) (agreed (λ s. get_or ks s 0) f 64 same s s_in)
    ∙ get_or_append_left xs ys 0 (f s) (omega arith)

-- the same from a row and zeros, where 64 stands for no square
pub picked_or_none : (xs ks : List ℕ) (f : ℕ → ℕ) → length xs ≡ 64 → length ks ≡ 64
    → T (passes_below (λ s. eqb (get_or ks s 0) (f s)) 64) → T (passes_below (λ s. leb (f s) 64) 64)
    → (s : ℕ) → s < 64 → get_or (pick_l 0 (xs ++ replicate 64 0) ks) s 0 ≡ get_or xs (f s) 0
picked_or_none xs ks f long all same small s s_in =
    get_or-map (λ k. get_or (xs ++ replicate 64 0) k 0) ks s 0 0 (omega arith)
    ∙ ap (λ k. get_or (xs ++ replicate 64 0) k 0) (agreed (λ s. get_or ks s 0) f 64 same s s_in)
    ∙ elim (cases_lt (f s) 64) [
      | inl within ↦ get_or_append_left xs (replicate 64 0) 0 (f s) (omega arith)
      | inr past ↦
          let at_most : f s ≤ 64 = leb-true _ _ (is_true _ (passed (λ s. leb (f s) 64) 64 small s s_in)) in
          let none : f s - 64 ≡ 0 = omega arith in
          get_or-append_right xs (replicate 64 0) 64 (f s) 0 long past ∙ ap (λ i. get_or (replicate 64 0) i 0) none ∙ sym (get_or_past xs (f s) 0 (omega arith))
    ]
