-- Men counted on the squares of a placement, and taken off one by one.
use Rattle.std.proofs.Common.{◌≡◌, ◌≢◌, ℕ, zero, suc, ◌+◌, ◌<◌, ◌≤◌, ◌⊎◌, cond, List, [], ◌∷◌, Option, Some, None}
use Rattle.std.proofs.Common.{arith, refl, sym, ap, ◌∙◌, inl, inr, subst, slice_index_or}
use Rattle.egt_index.specs.Prelude.{cases_eq, eq-eqb, eqb_tells, sum_by-cons, Kind, Q, R, B, N, P, K, Man, kind_number}
use Rattle.egt_index.specs.Prelude.{side_number, man_number, stands_here, count_of, Placement, Stands, same_men}
use Rattle.egt_index.specs.Prelude.{get-remove_same, get-remove_other, total, is_man, tally, AreCounted, Least, men_of}
use Rattle.std.specs.FinMap as placement
use Rattle.egt_index.proofs.Listing.{get_none}
use Rattle.egt_board.proofs.Sides.{kind_few}
use Rattle.egt_index.proofs.Coding.{side_told}
use Rattle.egt_board.proofs.Sizes.{total-same}

kind_at : ℕ → Kind
kind_at n = slice_index_or (Q ∷ R ∷ B ∷ N ∷ P ∷ K ∷ []) n Q

kind_back : (kind : Kind) → kind_at (kind_number kind) ≡ kind
unfolding kind_at
kind_back kind = grind arith

-- men of one number are the same
pub man_told : (man other : Man) → man_number man ≡ man_number other → man ≡ other
man_told man other same = grind (arith, kind_few, kind_number, side_number, side_told, kind_back, kind_at)

here_one : (men : Placement) (s : ℕ) (man : Man) → Stands men s man → stands_here man (placement.get men s) ≡ 1
here_one men s man stands = ap (stands_here man) stands ∙ ap (λ b. cond b 1 0) (eq-eqb (man_number man) (man_number man) refl)

here_zero : (o : Option Man) (man : Man) → (o ≡ Some man → ⊥) → stands_here man o ≡ 0
here_zero o man not = grind (arith, eqb_tells, man_told)

pub told_here : (men : Placement) (s : ℕ) (man : Man) → Stands men s man ⊎ (Stands men s man → ⊥)
told_here men s man = grind (arith, cases_eq, man_told)

pub least_below : (men : Placement) (man : Man) (n : ℕ) → ((s : ℕ) × (s < n) × Least men man s) ⊎ ((t : ℕ) → t < n → Stands men t man → ⊥)
least_below men man zero = inr (λ t t_in h. omega arith)
least_below men man (suc n) = elim (least_below men man n) [
  | inl found ↦ let lt = found.1 in inl (found.0, omega arith, found.2)
  | inr none ↦ elim (told_here men n man) [
    | inl here ↦ inl (n, omega arith, record { stands = here; least = none })
    | inr not ↦ inr (λ t t_in h. elim (cases_eq t n) [
      | inl e ↦ not (subst (λ k. Stands men k man) e h)
      | inr other ↦ none t (omega arith) h
    ])
  ]
]

total_none : (f : ℕ → ℕ) (n : ℕ) → ((t : ℕ) → t < n → f t ≡ 0) → total f n ≡ 0
total_none f zero none = refl
total_none f (suc n) none = let rest = total_none f n (λ t t_in. none t (omega arith)) in let last = none n (omega arith) in omega arith

total_some : (f : ℕ → ℕ) (n s : ℕ) → s < n → f s ≤ total f n
total_some f zero s s_in = absurd (omega arith)
total_some f (suc n) s s_in = elim (cases_eq s n) [
  | inl e ↦ let here = ap f e in omega arith
  | inr other ↦ let rest = total_some f n s (omega arith) in omega arith
]

total_but_one : (f g : ℕ → ℕ) (n s k : ℕ) → s < n → g s + k ≡ f s → ((t : ℕ) → t ≢ s → g t ≡ f t) → total g n + k ≡ total f n
total_but_one f g zero s k s_in here others = absurd (omega arith)
total_but_one f g (suc n) s k s_in here others = elim (cases_eq s n) [
  | inl e ↦
      let rest : total g n ≡ total f n = total-same g f n (λ t t_in. others t (λ same. omega arith)) in
      let there : g n + k ≡ f n = subst (λ j. g j + k ≡ f j) e here in omega arith
  | inr other ↦
      let rest : total g n + k ≡ total f n = total_but_one f g n s k (omega arith) here others in
      let last : g n ≡ f n = others n (λ same. omega arith) in omega arith
]

-- no such man on the board, and none of it counted
pub counted_none : (men : Placement) (man : Man) → ((t : ℕ) → t < 64 → Stands men t man → ⊥) → count_of men man ≡ 0
unfolding count_of
counted_none men man none = total_none (λ s. stands_here man (placement.get men s)) 64 (λ t t_in. here_zero (placement.get men t) man (none t t_in))

pub counted_some : (men : Placement) (man : Man) (s : ℕ) → s < 64 → Stands men s man → 1 ≤ count_of men man
unfolding count_of
counted_some men man s s_in stands =
    let one = here_one men s man stands in
    let le = total_some (λ s. stands_here man (placement.get men s)) 64 s s_in in omega arith

-- a man taken off is counted once less
pub removed : (men : Placement) (man other : Man) (s : ℕ) → s < 64 → Stands men s man → count_of (placement.remove men s) other + cond (is_man other man) 1 0 ≡ count_of men other
unfolding count_of
removed men man other s s_in stands =
    total_but_one (λ t. stands_here other (placement.get men t)) (λ t. stands_here other (placement.get (placement.remove men s) t)) 64 s (cond (is_man other man) 1 0) s_in
    (let gone = ap (stands_here other) (get-remove_same men s s refl) in let was = ap (stands_here other) stands in omega arith)
    (λ t t_not. ap (stands_here other) (get-remove_other men s t t_not))

pub count_cons : (man other : Man) (list : List Man) → tally other (man ∷ list) ≡ tally other list + cond (is_man other man) 1 0
count_cons man other list = let is = sum_by-cons (λ x. cond {A = ℕ} (is_man other x) 1 0) man list in omega arith

pub counted_rest : (men : Placement) (man : Man) (list : List Man) (s : ℕ) → s < 64 → Stands men s man → AreCounted men (man ∷ list) → AreCounted (placement.remove men s) list
counted_rest men man list s s_in stands counted other =
    let less = removed men man other s s_in stands in
    let all = counted other in
    let more = count_cons man other list in omega arith

pub first_is_there : (men : Placement) (man : Man) (list : List Man) → AreCounted men (man ∷ list) → (s : ℕ) × (s < 64) × Least men man s
first_is_there men man list counted = elim (least_below men man 64) [
  | inl found ↦ found
  | inr none ↦
      let zero_of = counted_none men man none in
      let all = counted man in
      let more = count_cons man man list in
      let one : cond {A = ℕ} (is_man man man) 1 0 ≡ 1 = ap (λ b. cond b 1 0) (eq-eqb (man_number man) (man_number man) refl) in
      absurd (omega arith)
]

pub none_left : (men : Placement) → ((s : ℕ) (man : Man) → Stands men s man → s < 64) → AreCounted men [] → men ≡ men_of []
none_left men on_board counted = same_men _ _ (λ q. free q (placement.get men q) refl ∙ sym (get_none q))
  where
    free : (q : ℕ) (o : Option Man) → placement.get men q ≡ o → placement.get men q ≡ None
    free q None is = is
    free q (Some man) is = let some = counted_some men man q (on_board q man is) is in let none = counted man in absurd (omega arith)
