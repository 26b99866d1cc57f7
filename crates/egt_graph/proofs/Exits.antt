-- Exits that fall due: those of number r count from the end of round r on.
use Rattle.std.proofs.Common.{◌≡◌, ℕ, ◌+◌, ◌<◌, ◌≤◌, Bool, true, cond, not, ◌||◌, eqb, ltb, List, refl, sym, ap}
use Rattle.std.proofs.Common.{◌∙◌, inl, inr, arith, count_by}
use Rattle.egt_graph.specs.Prelude.{list_any, lt-ltb, le-ltb, le-leb, lt-leb, eq-eqb, ne_eqb, and_right}
use Rattle.egt_graph.specs.Prelude.{not_from_false, cases_order, Graph, is_empty, is_lost_before, is_won_before, outs}
use Rattle.egt_graph.specs.Prelude.{leaves, has_moves, count_of, is_known_loss, waits_at, is_winning, is_win_of}
use Rattle.egt_graph.specs.Prelude.{is_loss_of, is_win_from, later_at, Amid, Marks, TakesBack, Exit, Win, Loss, Draw}
use Rattle.egt_graph.proofs.Lists.{counted_some, count_split, count_weaker, any_or, some_counts}
use Rattle.egt_graph.proofs.Holding.{Hold-mark, Hold-take}

pub below_next : (k r : ℕ) → ltb k (r + 1) ≡ (ltb k r || eqb k r)
below_next k r = elim (cases_order k r) [
  | inl e ↦ rw (lt-ltb k (r + 1) (omega arith), le-ltb k r (omega arith), eq-eqb k r e) refl
  | inr o ↦ elim o [
    | inl lt ↦ rw (lt-ltb k (r + 1) (omega arith), lt-ltb k r lt) refl
    | inr gt ↦ rw (le-ltb k (r + 1) (omega arith), le-ltb k r (omega arith), ne_eqb k r (λ e. absurd (omega arith))) refl
  ]
]

pub lost_next : (r : ℕ) (e : Exit) → is_lost_before (r + 1) e ≡ (is_lost_before r e || is_loss_of r e)
lost_next r e = grind (arith, below_next)

loss_is_no_win : (r n : ℕ) (e : Exit) → is_loss_of r e ≡ true → not (is_won_before n e) ≡ true
loss_is_no_win r n e h = grind arith

pub waits_next : (r : ℕ) (e : Exit) → cond (not (is_won_before r e)) 1 0 ≡ cond (not (is_won_before (r + 1) e)) 1 0 + cond (is_win_of r e) 1 0
waits_next r (Loss k) = refl
waits_next r Draw = refl
waits_next r (Win k) = elim (cases_order k r) [
  | inl e ↦ rw (lt-ltb k (r + 1) (omega arith), le-ltb k r (omega arith), eq-eqb k r e) refl
  | inr o ↦ elim o [
    | inl lt ↦ rw (lt-ltb k (r + 1) (omega arith), lt-ltb k r lt, ne_eqb k r (λ e. absurd (omega arith))) refl
    | inr gt ↦ rw (le-ltb k (r + 1) (omega arith), le-ltb k r (omega arith), ne_eqb k r (λ e. absurd (omega arith))) refl
  ]
]

later_step : (r : ℕ) (e : Exit) → cond (is_win_from r e) 1 0 ≡ cond (is_win_from (r + 1) e) 1 0 + cond (is_win_of r e) 1 0
later_step r (Loss k) = refl
later_step r Draw = refl
later_step r (Win k) = elim (cases_order k r) [
  | inl e ↦ rw (le-leb r k (omega arith), lt-leb (r + 1) k (omega arith), eq-eqb k r e) refl
  | inr o ↦ elim o [
    | inl lt ↦ rw (lt-leb r k lt, lt-leb (r + 1) k (omega arith), ne_eqb k r (λ e. absurd (omega arith))) refl
    | inr gt ↦ rw (le-leb r k (omega arith), le-leb (r + 1) k (omega arith), ne_eqb k r (λ e. absurd (omega arith))) refl
  ]
]

pub left_has_moves : (g : Graph) (p : Exit → Bool) (i : ℕ) → 0 < count_by p (leaves g i) → has_moves g i ≡ true
left_has_moves g p i h = not_from_false _ (and_right (is_empty (outs g i)) _ (counted_some p (leaves g i) h))

or_group : (a b c : Bool) → (a || (b || c)) ≡ ((a || b) || c)
or_group a b c = grind arith

-- exits into positions that lose in r plies: their nodes win in one more
pub lost_exits_mark : (g : Graph) (r : ℕ) (done : ℕ → Bool) (won : ℕ) (es ws xs es' : List ℕ)
    → ((i : ℕ) → count_of i xs ≡ count_by (is_loss_of r) (leaves g i))
    → Amid g r done r won es ws → Marks es xs (r + 1) es' → Amid g r done (r + 1) won es' ws
lost_exits_mark g r done won es ws xs es' held h marks =
    Hold-mark (is_winning g r done (r + 1)) xs es' h marks found
    (λ i some.
    let le = count_weaker (is_loss_of r) (λ e. not (is_won_before won e)) (loss_is_no_win r won) (leaves g i) in
    let e = held i in
    omega arith)
  where
    found : (i : ℕ) → is_winning g r done (r + 1) i ≡ (is_winning g r done r i || ltb 0 (count_of i xs))
    found i =
        ap (λ b. list_any (is_known_loss g r done) (outs g i) || b) (any_or _ _ _ (lost_next r) (leaves g i))
        ∙ or_group (list_any (is_known_loss g r done) (outs g i)) (list_any (is_lost_before r) (leaves g i)) (list_any (is_loss_of r) (leaves g i))
        ∙ ap (λ b. is_winning g r done r i || b) (some_counts (is_loss_of r) (leaves g i) ∙ ap (ltb 0) (sym (held i)))

-- exits into positions that win in r plies: their nodes wait for one less
pub won_exits_take : (g : Graph) (r : ℕ) (done : ℕ → Bool) (due : ℕ) (es ws xs es' ws' : List ℕ)
    → ((i : ℕ) → count_of i xs ≡ count_by (is_win_of r) (leaves g i))
    → Amid g r done due r es ws → TakesBack es ws xs (r + 1) es' ws' → Amid g r done due (r + 1) es' ws'
won_exits_take g r done due es ws xs es' ws' held h takes =
    Hold-take (waits_at g r done (r + 1)) xs es' ws' h takes fewer (λ i some. left_has_moves g (is_win_of r) i (let e = held i in omega arith))
  where
    fewer : (i : ℕ) → waits_at g r done (r + 1) i + count_of i xs ≡ waits_at g r done r i
    fewer i =
        let s = count_split _ _ _ (waits_next r) (leaves g i) in
        let e = held i in
        omega arith

-- before they do, each node waits for as many more
pub won_exits_waited : (g : Graph) (r : ℕ) (done : ℕ → Bool) (xs : List ℕ)
    → ((i : ℕ) → count_of i xs ≡ count_by (is_win_of r) (leaves g i))
    → (i : ℕ) → count_of i xs ≤ waits_at g r done r i
won_exits_waited g r done xs held i =
    let s = count_split _ _ _ (waits_next r) (leaves g i) in
    let e = held i in
    omega arith

pub later_next : (g : Graph) (r : ℕ) (xs : List ℕ)
    → ((i : ℕ) → count_of i xs ≡ count_by (is_win_of r) (leaves g i))
    → (i : ℕ) → later_at g (r + 1) i + count_of i xs ≡ later_at g r i
later_next g r xs held i =
    let s = count_split _ _ _ (later_step r) (leaves g i) in
    let e = held i in
    omega arith
