-- Entries and counters as moves are taken back, over any account of what they hold.
use Rattle.std.proofs.Common.{◌≡◌, ℕ, ◌+◌, ◌*◌, ◌<◌, Bool, true, false, cond, ◌&&◌, ◌||◌, eqb, ltb, List, slice_index}
use Rattle.std.proofs.Common.{sym, ap, ap₂, ◌∙◌, inl, inr, arith}
use Rattle.std.proofs.lemmas.Bool.{cases_Bool, ltb-true, ltb-false, ne_eqb, eqb-true, and_right}
use Rattle.egt_graph.specs.Columns.{count_of, decided, Hold, Marks, TakesBack}

pub decided_open : (b n : ℕ) (win loss : Bool) → eqb b 1 ≡ true → decided b win loss n ≡ cond win (2 + 2 * n) (cond loss (3 + 2 * n) 1)
decided_open b n win loss e = ap (λ t. cond t (cond win (2 + 2 * n) (cond loss (3 + 2 * n) 1)) b) e

pub decided_shut : (b n : ℕ) (win loss : Bool) → eqb b 1 ≡ false → decided b win loss n ≡ b
decided_shut b n win loss e = ap (λ t. cond t (cond win (2 + 2 * n) (cond loss (3 + 2 * n) 1)) b) e

pub decided_none : (b n : ℕ) → b ≡ decided b false false n
decided_none b n = elim (cases_Bool (eqb b 1)) [
  | inl t ↦ eqb-true b 1 t ∙ sym (decided_open b n false false t)
  | inr f ↦ sym (decided_shut b n false false f)
]

pub win_is_no_draw : (n : ℕ) → eqb (2 + 2 * n) 1 ≡ false
win_is_no_draw n = ne_eqb (2 + 2 * n) 1 (λ e. absurd (omega arith))

pub loss_is_no_draw : (n : ℕ) → eqb (3 + 2 * n) 1 ≡ false
loss_is_no_draw n = ne_eqb (3 + 2 * n) 1 (λ e. absurd (omega arith))

mark_open : (b n : ℕ) → eqb b 1 ≡ true → (win c loss : Bool) → (c ≡ true → loss ≡ false) → decided (decided b win loss n) c false n ≡ decided b (win || c) loss n
mark_open b n o win c loss h = grind (arith, win_is_no_draw, loss_is_no_draw)

pub decided_mark : (b n : ℕ) (win c loss : Bool) → (c ≡ true → loss ≡ false) → decided (decided b win loss n) c false n ≡ decided b (win || c) loss n
decided_mark b n win c loss h = elim (cases_Bool (eqb b 1)) [
  | inl o ↦ mark_open b n o win c loss h
  | inr s ↦ ap (λ e. decided e c false n) (decided_shut b n win loss s) ∙ decided_shut b n c false s ∙ sym (decided_shut b n (win || c) loss s)
]

take_open : (b n : ℕ) → eqb b 1 ≡ true → (win c loss z loss' : Bool) → (c ≡ true → loss ≡ false) → (c ≡ true → loss' ≡ z) → (c ≡ false → loss' ≡ loss)
    → decided (decided b win loss n) false (c && z) n ≡ decided b win loss' n
take_open b n o win c loss z loss' h k m = grind (arith, win_is_no_draw, loss_is_no_draw)

pub decided_take : (b n : ℕ) (win c loss z loss' : Bool) → (c ≡ true → loss ≡ false) → (c ≡ true → loss' ≡ z) → (c ≡ false → loss' ≡ loss)
    → decided (decided b win loss n) false (c && z) n ≡ decided b win loss' n
decided_take b n win c loss z loss' h k m = elim (cases_Bool (eqb b 1)) [
  | inl o ↦ take_open b n o win c loss z loss' h k m
  | inr s ↦ ap (λ e. decided e false (c && z) n) (decided_shut b n win loss s) ∙ decided_shut b n false (c && z) s ∙ sym (decided_shut b n win loss' s)
]

-- what was decided stays, whatever is said of it again
again_open : (b n m : ℕ) → eqb b 1 ≡ true → (win loss : Bool) → decided (decided b win loss n) win loss m ≡ decided b win loss n
again_open b n m o win loss = grind (arith, win_is_no_draw, loss_is_no_draw)

pub decided_again : (b n m : ℕ) (win loss : Bool) → decided (decided b win loss n) win loss m ≡ decided b win loss n
decided_again b n m win loss = elim (cases_Bool (eqb b 1)) [
  | inl o ↦ again_open b n m o win loss
  | inr s ↦ ap (λ e. decided e win loss m) (decided_shut b n win loss s) ∙ decided_shut b m win loss s ∙ sym (decided_shut b n win loss s)
]

pub Hold-mark : {base : ℕ → ℕ} {moves win : ℕ → Bool} {wait : ℕ → ℕ} {n : ℕ} {es ws : List ℕ} (win' : ℕ → Bool) (xs es' : List ℕ)
    → Hold base moves win wait n es ws → Marks es xs n es'
    → ((i : ℕ) → win' i ≡ (win i || ltb 0 (count_of i xs))) → ((i : ℕ) → 0 < count_of i xs → 0 < wait i)
    → Hold base moves win' wait n es' ws
Hold-mark {base} {moves} {win} {wait} {n} win' xs es' h marks more waits = record {
  entry = λ i.
      marks i ∙ ap (λ e. decided e (ltb 0 (count_of i xs)) false n) (h.entry i)
      ∙ decided_mark (base i) n (win i) (ltb 0 (count_of i xs)) (moves i && eqb (wait i) 0)
      (λ t. and_right (moves i) (eqb (wait i) 0) (ne_eqb (wait i) 0 (let w = waits i (ltb-true 0 (count_of i xs) t) in λ e. absurd (omega arith))))
      ∙ ap (λ w. decided (base i) w (moves i && eqb (wait i) 0) n) (sym (more i));
  waiting = h.waiting;
}

pub Hold-take : {base : ℕ → ℕ} {moves win : ℕ → Bool} {wait : ℕ → ℕ} {n : ℕ} {es ws : List ℕ} (wait' : ℕ → ℕ) (xs es' ws' : List ℕ)
    → Hold base moves win wait n es ws → TakesBack es ws xs n es' ws'
    → ((i : ℕ) → wait' i + count_of i xs ≡ wait i) → ((i : ℕ) → 0 < count_of i xs → moves i ≡ true)
    → Hold base moves win wait' n es' ws'
Hold-take {base} {moves} {win} {wait} {n} {es} {ws} wait' xs es' ws' h takes less has = record {
  entry = λ i.
      takes.entry i ∙ ap₂ (λ e w. decided e false (ltb 0 (count_of i xs) && eqb w 0) n) (h.entry i) (left i)
      ∙ decided_take (base i) n (win i) (ltb 0 (count_of i xs)) (moves i && eqb (wait i) 0) (eqb (wait' i) 0) (moves i && eqb (wait' i) 0)
      (λ t. and_right (moves i) (eqb (wait i) 0) (ne_eqb (wait i) 0 (let p = ltb-true 0 (count_of i xs) t in let l = less i in λ e. absurd (omega arith))))
      (λ t. ap (λ b. b && eqb (wait' i) 0) (has i (ltb-true 0 (count_of i xs) t)))
      (λ f. ap (λ w. moves i && eqb w 0) (let p = ltb-false 0 (count_of i xs) f in let l = less i in omega arith));
  waiting = left;
}
  where
    left : (i : ℕ) → slice_index ws' i ≡ wait' i
    left i = let a = takes.waiting i in let b = h.waiting i in let c = less i in omega arith

pub Hold-same : {base : ℕ → ℕ} {moves win : ℕ → Bool} {wait : ℕ → ℕ} {n : ℕ} {es ws : List ℕ} (win' : ℕ → Bool) (wait' : ℕ → ℕ)
    → Hold base moves win wait n es ws → ((i : ℕ) → win i ≡ win' i) → ((i : ℕ) → wait i ≡ wait' i) → Hold base moves win' wait' n es ws
Hold-same {base} {moves} {win} {wait} {n} win' wait' h a b = record {
  entry = λ i. h.entry i ∙ ap₂ (λ w k. decided (base i) w (moves i && eqb k 0) n) (a i) (b i);
  waiting = λ i. h.waiting i ∙ b i;
}
