-- How many men a side has at most.
use Rattle.std.proofs.Common.{Option, None, ◌≡◌, ◌≢◌, ℕ, zero, suc, ◌+◌, ◌<◌, ◌≤◌, ◌↔◌, List, [], ◌∷◌, length, Some}
use Rattle.std.proofs.Common.{cond, eqb, arith, refl, sym, ap, ◌∙◌, inl, inr, subst, ◌⊎◌}
use Rattle.egt_board.specs.Prelude.{bit_at, is_some, cases_eq, false≢true, eqb_tells, bit_at-lt, Side, White, Black}
use Rattle.egt_board.specs.Prelude.{Man, SquareSet, other_side, Placement, IsOccupiedBy, IsKingOn, total, size_of}
use Rattle.std.specs.FinMap as placement
use Rattle.egt_board.proofs.Placed.{find-later}
use Rattle.egt_board.proofs.Gather.{IsKey}
use Rattle.egt_board.proofs.Sides.{sides_differ}
use Rattle.egt_board.proofs.Sizes.{total-le, total-less}

-- f, but with another number at k
changed_at : (ℕ → ℕ) → ℕ → ℕ → ℕ → ℕ
changed_at f k v t = cond (eqb t k) v (f t)

changed_here : (f : ℕ → ℕ) (k v t : ℕ) → t ≡ k → changed_at f k v t ≡ v
unfolding changed_at
changed_here f k v t e = elim (eqb_tells t k) [ inl h ↦ ap (λ b. cond b v (f t)) h.0 | inr h ↦ absurd (h.1 e) ]

changed_other : (f : ℕ → ℕ) (k v t : ℕ) → t ≢ k → changed_at f k v t ≡ f t
unfolding changed_at
changed_other f k v t other = elim (eqb_tells t k) [ inl h ↦ absurd (other h.1) | inr h ↦ ap (λ b. cond b v (f t)) h.0 ]

total-none : (f : ℕ → ℕ) (n : ℕ) → ((t : ℕ) → f t ≡ 0) → total f n ≡ 0
total-none f zero none = refl
total-none f (suc n) none = let rest : total f n ≡ 0 = total-none f n none in let last : f n ≡ 0 = none n in omega arith

total-cleared : (f : ℕ → ℕ) (k n : ℕ) → f k ≤ 1 → total f n ≤ total (changed_at f k 0) n + 1
total-cleared f k zero small = omega arith
total-cleared f k (suc n) small = elim (cases_eq n k) [
  | inl e ↦
      let rest : total f n ≤ total (changed_at f k 0) n = total-le f (changed_at f k 0) n (λ t t_in. let same : changed_at f k 0 t ≡ f t = changed_other f k 0 t (λ t_is. omega arith) in omega arith) in
      let last : f n ≤ 1 = subst (λ j. f j ≤ 1) (sym e) small in omega arith
  | inr other ↦
      let rest : total f n ≤ total (changed_at f k 0) n + 1 = total-cleared f k n small in
      let last : changed_at f k 0 n ≡ f n = changed_other f k 0 n other in omega arith
]

-- no more than the entries whose keys they are
pub covered : (es : List (ℕ × Man)) (f : ℕ → ℕ) (n : ℕ) → ((t : ℕ) → f t ≤ 1) → ((t : ℕ) → f t ≡ 1 → IsKey t es) → total f n ≤ length es
covered [] f n small keys =
    let none : total f n ≡ 0 = total-none f n (λ t. elim (cases_eq (f t) 1) [
      | inl one ↦ absurd (false≢true (keys t one))
      | inr other ↦ let le = small t in omega arith
    ]) in omega arith
covered (e ∷ es) f n small keys =
    let rest : total (changed_at f e.0 0) n ≤ length es = covered es (changed_at f e.0 0) n (λ t. bound t (cases_eq t e.0)) (λ t one. key t one (cases_eq t e.0)) in
    let more = total-cleared f e.0 n (small e.0) in omega arith
  where
    bound : (t : ℕ) → (t ≡ e.0) ⊎ (t ≢ e.0) → changed_at f e.0 0 t ≤ 1
    bound t h = grind (arith, changed_here, changed_other)

    key : (t : ℕ) → changed_at f e.0 0 t ≡ 1 → (t ≡ e.0) ⊎ (t ≢ e.0) → IsKey t es
    key t one (inl h) = let is = changed_here f e.0 0 t h in absurd (omega arith)
    key t one (inr h) = sym (ap is_some (find-later t e.0 e.1 es h)) ∙ keys t (sym (changed_other f e.0 0 t h) ∙ one)

-- the other side's king leaves three
pub own_few : (men : Placement) (side : Side) (set : SquareSet) (k : ℕ) → placement.len men ≤ 4 → k < 64 → IsKingOn men (other_side side) k → ((t : ℕ) → (bit_at set.bits t ≡ 1) ↔ IsOccupiedBy men t side) → size_of set ≤ 3
unfolding size_of
own_few men side set k few k_in king held =
    let f : ℕ → ℕ = bit_at set.bits in
    let h : ℕ → ℕ = changed_at f k 1 in
    let le : total h 64 ≤ length (placement.entries men) = covered (placement.entries men) h 64 (λ t. bound t (cases_eq t k)) (λ t one. key t one (cases_eq t k)) in
    let one_more : total f 64 + 1 ≡ total h 64 = total-less h f 64 k k_in (changed_here f k 1 k refl) not_own (λ t other. sym (changed_other f k 1 t other)) in
    let size = placement.len-entries men in omega arith
  where
    not_own : bit_at set.bits k ≡ 0
    not_own = grind (arith, cases_eq, sides_differ, bit_at-lt)

    bound : (t : ℕ) → (t ≡ k) ⊎ (t ≢ k) → changed_at (bit_at set.bits) k 1 t ≤ 1
    bound t h = grind (arith, changed_here, changed_other, bit_at-lt)

    key : (t : ℕ) → changed_at (bit_at set.bits) k 1 t ≡ 1 → (t ≡ k) ⊎ (t ≢ k) → IsKey t (placement.entries men)
    key t one (inl e) = ap is_some (sym (placement.get-entries men t) ∙ ap (placement.get men) e ∙ king.stands)
    key t one (inr other) =
        ap is_some (sym (placement.get-entries men t) ∙ ((held t).0 (sym (changed_other (bit_at set.bits) k 1 t other) ∙ one)).stands)

pub few_of_side : (men : Placement) (side : Side) (set : SquareSet) (white black : ℕ) → placement.len men ≤ 4 → white < 64 → black < 64 → IsKingOn men White white → IsKingOn men Black black
    → ((t : ℕ) → (bit_at set.bits t ≡ 1) ↔ IsOccupiedBy men t side) → size_of set ≤ 3
few_of_side men White set white black few white_in black_in w b held = own_few men White set black few black_in b held
few_of_side men Black set white black few white_in black_in w b held = own_few men Black set white few white_in w held

-- no more squares are occupied than there are men
pub occupied_few : (men : Placement) (set : SquareSet) → ((t : ℕ) → (bit_at set.bits t ≡ 0) ↔ placement.get men t ≡ None) → size_of set ≤ placement.len men
unfolding size_of
occupied_few men set free =
    let le : total (bit_at set.bits) 64 ≤ length (placement.entries men) =
    covered (placement.entries men) (bit_at set.bits) 64 (λ t. let small = bit_at-lt set.bits t in omega arith) (λ t one. key t one (placement.get men t) refl) in
    let size = placement.len-entries men in omega arith
  where
    key : (t : ℕ) → bit_at set.bits t ≡ 1 → (o : Option Man) → placement.get men t ≡ o → IsKey t (placement.entries men)
    key t one None e = let none = (free t).1 e in absurd (omega arith)
    key t one (Some man) e = ap is_some (sym (placement.get-entries men t) ∙ e)
