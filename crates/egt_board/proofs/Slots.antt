-- The slots of a board: what stands on a square, and the slots with a man more or less.
use Rattle.std.proofs.Common.{◌≡◌, ◌≢◌, ℕ, zero, suc, ◌+◌, ◌<◌, ◌≤◌, Bool, true, false, cond, eqb, ltb, not, ◌&&◌, ◌||◌}
use Rattle.std.proofs.Common.{List, [], ◌∷◌, length, Option, Some, None, arith, refl, sym, ap, ◌∙◌, inl, inr, subst, T}
use Rattle.egt_board.specs.Prelude.{is_some, option_or, nat_cmp, is_lt, is_eq, eq_by_cmp, Ordering, Less, Equal}
use Rattle.egt_board.specs.Prelude.{Greater, nat_cmp_total, unsigned_tied, alike_right, below_all, by_order, where_key}
use Rattle.egt_board.specs.Prelude.{is_sorted-where_key, find-where_key, ltb-true, ltb-false, lt-ltb, le-ltb, eq-eqb}
use Rattle.egt_board.specs.Prelude.{false≢true, eqb_tells, Man, Placement, same_men, White, Black, king_of, corners}
use Rattle.egt_board.specs.Prelude.{Inside, slots_of, Slot, listed, padded, placed, InOrder, AreOnBoard, AreKept}
use Rattle.egt_board.specs.Prelude.{man_on, place, lesser, greater, first_half, second_half}
use Rattle.std.specs.FinMap as map
use Rattle.egt_board.proofs.Placed.{find-here, find-later, lt_of_less}

-- these slots show these men, with as many of them empty as there are fewer men than slots
pub record AreShown (xs : List Slot) (men : Placement) : Type 0 where
  pub full : xs ≡ padded 4 (map.entries men)
  pub few : length (map.entries men) ≤ 4
  pub on_board : AreOnBoard (map.entries men)

listed-padded : (n : ℕ) (es : List (ℕ × Man)) → length es ≤ n → listed (padded n es) ≡ es
listed-padded zero [] few = refl
listed-padded zero (e ∷ es) few = absurd (omega arith)
listed-padded (suc n) [] few = listed-padded n [] (omega arith)
listed-padded (suc n) (e ∷ es) few = ap (λ xs. e ∷ xs) (listed-padded n es (omega arith))

length-listed : (n : ℕ) (es : List (ℕ × Man)) → length (listed (padded n es)) ≤ n
length-listed zero es = omega arith
length-listed (suc n) [] = let h = length-listed n [] in omega arith
length-listed (suc n) (e ∷ es) = let h = length-listed n es in omega arith

entries_placed : (xs : List Slot) → AreKept xs → map.entries (placed xs) ≡ listed xs
entries_placed xs kept = map.entries-from_sorted nat_cmp (listed xs) kept.in_order

pub shown : (xs : List Slot) (men : Placement) → AreKept xs → placed xs ≡ men → AreShown xs men
shown xs men kept is =
    let same : map.entries men ≡ listed xs = ap map.entries (sym is) ∙ entries_placed xs kept in
    record {
      full = kept.full ∙ ap (padded 4) (sym same);
      few = subst (λ es. length es ≤ 4) (ap listed (sym kept.full) ∙ sym same) (length-listed 4 (listed xs));
      on_board = subst AreOnBoard (sym same) kept.on_board;
    }

pub listed-shown : (xs : List Slot) (men : Placement) → AreShown xs men → listed xs ≡ map.entries men
listed-shown xs men s = ap listed s.full ∙ listed-padded 4 (map.entries men) s.few

pub kept_of : (xs : List Slot) (men : Placement) → AreShown xs men → AreKept xs
kept_of xs men s = record {
  full = s.full ∙ ap (padded 4) (sym (listed-shown xs men s));
  in_order = subst InOrder (sym (listed-shown xs men s)) (map.entries_sorted men);
  on_board = subst AreOnBoard (sym (listed-shown xs men s)) s.on_board;
}

pub placed_of : (xs : List Slot) (men : Placement) → AreShown xs men → placed xs ≡ men
placed_of xs men s = map.same_entries_map _ _ (entries_placed xs (kept_of xs men s) ∙ listed-shown xs men s)

-- what stands on a square
or_find : (s : ℕ) (x : Slot) (xs : List Slot) → option_or (man_on s x) (map.find nat_cmp s (listed xs)) ≡ map.find nat_cmp s (listed (x ∷ xs))
or_find s x xs = grind (arith, nat_cmp, listed, unsigned_tied)

or_assoc : (p q r : Option Man) → option_or (option_or p q) r ≡ option_or p (option_or q r)
or_assoc p q r = grind arith

or_none : (p : Option Man) → p ≡ option_or p None
or_none p = grind arith

pub found_on : (s : ℕ) (a b c d : Slot) (men : Placement) → AreShown (a ∷ b ∷ c ∷ d ∷ []) men
    → option_or (option_or (option_or (man_on s a) (man_on s b)) (man_on s c)) (man_on s d) ≡ map.get men s
found_on s a b c d men is =
    or_assoc (option_or (man_on s a) (man_on s b)) (man_on s c) (man_on s d)
    ∙ or_assoc (man_on s a) (man_on s b) (option_or (man_on s c) (man_on s d))
    ∙ ap (λ p. option_or (man_on s a) (option_or (man_on s b) (option_or (man_on s c) p))) (or_none (man_on s d) ∙ or_find s d [])
    ∙ ap (λ p. option_or (man_on s a) (option_or (man_on s b) p)) (or_find s c (d ∷ []))
    ∙ ap (option_or (man_on s a)) (or_find s b (c ∷ d ∷ []))
    ∙ or_find s a (b ∷ c ∷ d ∷ [])
    ∙ ap (map.find nat_cmp s) (listed-shown (a ∷ b ∷ c ∷ d ∷ []) men is)
    ∙ sym (map.get-entries men s)

-- the slot of the four that is chosen by whether a man of it stands there
abbrev pub chosen_slot : ℕ → Slot → Slot → Slot → Slot → Slot
chosen_slot s a b c d = cond (is_some (man_on s a) || is_some (man_on s b)) (cond (is_some (man_on s a)) a b) (cond (is_some (man_on s c)) c d)

on_either : (s : ℕ) (first : Bool) (x y : Slot) → man_on s (cond first x y) ≡ cond first (man_on s x) (man_on s y)
on_either s first x y = grind arith

chosen_or : (x y z w : Option Man) → cond (is_some x || is_some y) (cond (is_some x) x y) (cond (is_some z) z w) ≡ option_or (option_or (option_or x y) z) w
chosen_or x y z w = grind arith

pub chosen_on : (s : ℕ) (a b c d : Slot) (men : Placement) → AreShown (a ∷ b ∷ c ∷ d ∷ []) men → man_on s (chosen_slot s a b c d) ≡ map.get men s
chosen_on s a b c d men is =
    on_either s (is_some (man_on s a) || is_some (man_on s b)) _ _
    ∙ ap (λ o. cond (is_some (man_on s a) || is_some (man_on s b)) o (man_on s (cond (is_some (man_on s c)) c d))) (on_either s (is_some (man_on s a)) a b)
    ∙ ap (λ o. cond (is_some (man_on s a) || is_some (man_on s b)) (cond (is_some (man_on s a)) (man_on s a) (man_on s b)) o) (on_either s (is_some (man_on s c)) c d)
    ∙ chosen_or (man_on s a) (man_on s b) (man_on s c) (man_on s d)
    ∙ found_on s a b c d men is

-- a board without men
no_entries : (es : List (ℕ × Man)) → length es ≡ 0 → es ≡ []
no_entries [] e = refl
no_entries (x ∷ es) e = absurd (omega arith)

entries_empty : map.entries {K = ℕ} {X = Man} {R = nat_cmp} map.empty ≡ []
entries_empty = no_entries _ (sym (map.len-entries {K = ℕ} {X = Man} {R = nat_cmp} map.empty) ∙ map.len-empty nat_cmp Man)

pub shown_empty : AreShown (None ∷ None ∷ None ∷ None ∷ []) map.empty
shown_empty = record {
  full = ap (padded 4) (sym entries_empty);
  few = subst (λ (es : List (ℕ × Man)). length es ≤ 4) (sym entries_empty) (omega arith);
  on_board = subst AreOnBoard (sym entries_empty) tt;
}

cmp_less : (a b : ℕ) → a < b → nat_cmp a b ≡ Less
cmp_less a b h = ap (λ l. cond l Less (cond (eqb a b) Equal Greater)) (lt-ltb a b h)

cmp_equal : (a b : ℕ) → a ≡ b → nat_cmp a b ≡ Equal
cmp_equal a b h = ap (λ l. cond l Less (cond (eqb a b) Equal Greater)) (le-ltb a b (omega arith)) ∙ ap (λ e. cond e Equal Greater) (eq-eqb a b h)

cmp_greater : (a b : ℕ) → b < a → nat_cmp a b ≡ Greater
cmp_greater a b h = grind (arith, eqb_tells, le-ltb)

-- the slots once a man has come to them
unfoldable pub with_man : Slot → List Slot → List Slot
with_man new [] = []
with_man new (x ∷ xs) = lesser new x ∷ with_man (greater new x) xs

pub with_none : (n : ℕ) (es : List (ℕ × Man)) → AreOnBoard es → with_man None (padded n es) ≡ padded n es
unfolding with_man
with_none zero es on = refl
with_none (suc n) [] on = ap (λ xs. None ∷ xs) (with_none n [] tt)
with_none (suc n) (e ∷ es) on =
    ap (λ b. cond b (Some e) None ∷ with_man (cond b None (cond (ltb 64 e.0) (Some e) None)) (padded n es)) (lt-ltb e.0 64 on.0)
    ∙ ap (λ xs. Some e ∷ xs) (with_none n es on.1)

put-below : (k : ℕ) (man : Man) (es : List (ℕ × Man)) → T (below_all nat_cmp k es) → map.put nat_cmp k man es ≡ (k, man) ∷ es
put-below k man [] below = refl
put-below k man (e ∷ es) below = go (nat_cmp k e.0) below
  where
    go : (o : Ordering) → T (is_lt o && below_all nat_cmp k es) → by_order o ((k, man) ∷ e ∷ es) ((e.0, man) ∷ es) (e ∷ map.put nat_cmp k man es) ≡ (k, man) ∷ e ∷ es
    go o h = grind arith

with_some : (n k : ℕ) (man : Man) (es : List (ℕ × Man)) → InOrder es → AreOnBoard es → k < 64 → length es < n
    → with_man (Some (k, man)) (padded n es) ≡ padded n (map.put nat_cmp k man es)
unfolding with_man
with_some zero k man es sorted on k_in room = absurd (omega arith)
with_some (suc n) k man [] sorted on k_in room =
    ap (λ b. cond b None (Some (k, man)) ∷ with_man (cond b (Some (k, man)) (cond (ltb k 64) None None)) (padded n [])) (le-ltb 64 k (omega arith))
    ∙ ap (λ b. Some (k, man) ∷ with_man (cond b None None) (padded n [])) (lt-ltb k 64 k_in)
    ∙ ap (λ xs. Some (k, man) ∷ xs) (with_none n [] tt)
with_some (suc n) k man (e ∷ es) sorted on k_in room =
    elim (ltb e.0 k) as (λ b. ltb e.0 k ≡ b
    → (cond b (Some e) (Some (k, man)) ∷ with_man (cond b (Some (k, man)) (cond (ltb k e.0) (Some e) None)) (padded n es)) ≡ padded (suc n) (map.put nat_cmp k man (e ∷ es))) [
      | true ↦ λ h.
          ap (λ xs. Some e ∷ xs) (with_some n k man es (second_half _ _ sorted) on.1 k_in (omega arith))
          ∙ ap (λ o. padded (suc n) (by_order o ((k, man) ∷ e ∷ es) ((e.0, man) ∷ es) (e ∷ map.put nat_cmp k man es))) (sym (cmp_greater k e.0 (ltb-true e.0 k h)))
      | false ↦ λ h. elim (ltb k e.0) as (λ b. ltb k e.0 ≡ b
          → (Some (k, man) ∷ with_man (cond b (Some e) None) (padded n es)) ≡ padded (suc n) (map.put nat_cmp k man (e ∷ es))) [
            | true ↦ λ l.
                ap (λ xs. Some (k, man) ∷ xs) (with_some n e.0 e.1 es (second_half _ _ sorted) on.1 on.0 (omega arith) ∙ ap (padded n) (put-below e.0 e.1 es (first_half _ _ sorted)))
                ∙ ap (λ o. padded (suc n) (by_order o ((k, man) ∷ e ∷ es) ((e.0, man) ∷ es) (e ∷ map.put nat_cmp k man es))) (sym (cmp_less k e.0 (ltb-true k e.0 l)))
            | false ↦ λ l.
                let low = ltb-false e.0 k h in
                let high = ltb-false k e.0 l in
                let same : k ≡ e.0 = omega arith in
                ap (λ xs. Some (k, man) ∷ xs) (with_none n es on.1)
                ∙ ap (λ j. padded (suc n) ((j, man) ∷ es)) same
                ∙ ap (λ o. padded (suc n) (by_order o ((k, man) ∷ e ∷ es) ((e.0, man) ∷ es) (e ∷ map.put nat_cmp k man es))) (sym (cmp_equal k e.0 same))
          ] refl
    ] refl

on_board_put : (k : ℕ) (man : Man) (es : List (ℕ × Man)) → AreOnBoard es → k < 64 → AreOnBoard (map.put nat_cmp k man es)
on_board_put k man [] on k_in = (k_in, tt)
on_board_put k man (e ∷ es) on k_in = go (nat_cmp k e.0) (on_board_put k man es on.1 k_in)
  where
    go : (o : Ordering) → AreOnBoard (map.put nat_cmp k man es) → AreOnBoard (by_order o ((k, man) ∷ e ∷ es) ((e.0, man) ∷ es) (e ∷ map.put nat_cmp k man es))
    go o rest = grind arith

length_put : (k : ℕ) (man : Man) (es : List (ℕ × Man)) → length (map.put nat_cmp k man es) ≤ length es + 1
length_put k man [] = omega arith
length_put k man (e ∷ es) = go (nat_cmp k e.0) (length_put k man es)
  where
    go : (o : Ordering) → length (map.put nat_cmp k man es) ≤ length es + 1 → length (by_order o ((k, man) ∷ e ∷ es) ((e.0, man) ∷ es) (e ∷ map.put nat_cmp k man es)) ≤ length (e ∷ es) + 1
    go o rest = grind arith

pub shown_with : (xs : List Slot) (men : Placement) (k : ℕ) (man : Man) → AreShown xs men → map.len men < 4 → k < 64 → AreShown (with_man (Some (k, man)) xs) (map.insert men k man)
shown_with xs men k man is room k_in =
    let es = map.entries men in
    let size = map.len-entries men in
    let same = map.entries-insert nat_cmp_total men k man in
    record {
      full = ap (with_man (Some (k, man))) is.full ∙ with_some 4 k man es (map.entries_sorted men) is.on_board k_in (omega arith) ∙ ap (padded 4) (sym same);
      few = subst (λ (fs : List (ℕ × Man)). length fs ≤ 4) (sym same) (let h = length_put k man es in omega arith);
      on_board = subst AreOnBoard (sym same) (on_board_put k man es is.on_board k_in);
    }

-- the slots without the man on a square, which those behind it have moved up
first_of : List Slot → Slot
first_of [] = None
first_of (x ∷ xs) = x

pub without_man : Bool → ℕ → List Slot → List Slot
without_man gone s [] = []
without_man gone s (x ∷ xs) = cond (gone || is_some (man_on s x)) (first_of xs) x ∷ without_man (gone || is_some (man_on s x)) s xs

rest_of : List (ℕ × Man) → List (ℕ × Man)
rest_of [] = []
rest_of (e ∷ es) = es

moved_up : (n s : ℕ) (es : List (ℕ × Man)) → length es ≤ n → without_man true s (padded n es) ≡ padded n (rest_of es)
unfolding without_man first_of rest_of
moved_up zero s [] few = refl
moved_up zero s (e ∷ es) few = absurd (omega arith)
moved_up (suc zero) s [] few = refl
moved_up (suc zero) s (e ∷ []) few = refl
moved_up (suc zero) s (e ∷ f ∷ es) few = absurd (omega arith)
moved_up (suc (suc n)) s [] few = ap (λ xs. None ∷ xs) (moved_up (suc n) s [] (omega arith))
moved_up (suc (suc n)) s (e ∷ []) few = ap (λ xs. None ∷ xs) (moved_up (suc n) s [] (omega arith))
moved_up (suc (suc n)) s (e ∷ f ∷ es) few = ap (λ xs. Some f ∷ xs) (moved_up (suc n) s (f ∷ es) (omega arith))

-- the entries on other squares
others : ℕ → List (ℕ × Man) → List (ℕ × Man)
others s es = where_key nat_cmp (λ k. not (eq_by_cmp nat_cmp s k)) es

others-below : (s : ℕ) (es : List (ℕ × Man)) → T (below_all nat_cmp s es) → others s es ≡ es
unfolding others
others-below s [] below = refl
others-below s (e ∷ es) below = go (nat_cmp s e.0) below (others-below s es)
  where
    go : (o : Ordering) → T (is_lt o && below_all nat_cmp s es) → (T (below_all nat_cmp s es) → others s es ≡ es) → cond (not (is_eq o)) (e ∷ others s es) (others s es) ≡ e ∷ es
    go o h rest = grind arith

left_on : (n s : ℕ) (es : List (ℕ × Man)) → InOrder es → length es ≤ n → without_man false s (padded n es) ≡ padded n (others s es)
unfolding without_man others rest_of
left_on zero s es sorted few = refl
left_on (suc n) s [] sorted few = ap (λ xs. None ∷ xs) (left_on n s [] tt (omega arith))
left_on (suc n) s (e ∷ es) sorted few =
    elim (eqb s e.0) as (λ b. eqb s e.0 ≡ b → (cond (is_some (cond b (Some e.1) None)) (first_of (padded n es)) (Some e) ∷ without_man (is_some (cond b (Some e.1) None)) s (padded n es)) ≡ padded (suc n) (others s (e ∷ es))) [
      | true ↦ λ h.
          let same = eqb-true_of h in
          moved_up (suc n) s (e ∷ es) few
          ∙ ap (padded (suc n)) (sym (ap (λ t. cond (not t) (e ∷ others s es) (others s es)) (unsigned_tied s e.0 ∙ h) ∙ others-below s es (subst (λ k. T (below_all nat_cmp k es)) (sym same) (first_half _ _ sorted))))
      | false ↦ λ h.
          ap (λ xs. Some e ∷ xs) (left_on n s es (second_half _ _ sorted) (omega arith))
          ∙ ap (padded (suc n)) (sym (ap (λ t. cond (not t) (e ∷ others s es) (others s es)) (unsigned_tied s e.0 ∙ h)))
    ] refl
  where
    eqb-true_of : eqb s e.0 ≡ true → s ≡ e.0
    eqb-true_of h = elim (eqb_tells s e.0) [ inl here ↦ here.1 | inr apart ↦ absurd (false≢true (sym apart.0 ∙ h)) ]

find_others : (s t : ℕ) (es : List (ℕ × Man)) → map.find nat_cmp t (others s es) ≡ cond (not (eq_by_cmp nat_cmp s t)) (map.find nat_cmp t es) None
unfolding others
find_others s t es =
    find-where_key nat_cmp (λ k. not (eq_by_cmp nat_cmp s k)) t (λ x e. ap (λ o. not (is_eq o)) (sym (alike_right nat_cmp_total t x s e))) es

turned : {A : Type 0} (b : Bool) (x y : A) → cond (not b) x y ≡ cond b y x
turned b x y = grind arith

even_either_way : (s t : ℕ) → eq_by_cmp nat_cmp s t ≡ eq_by_cmp nat_cmp t s
even_either_way s t = grind (arith, unsigned_tied, eqb_tells, eq-eqb)

entries_less : (s : ℕ) (men : Placement) → map.entries (map.remove men s) ≡ others s (map.entries men)
unfolding others
entries_less s men =
    ap map.entries (same_men (map.remove men s) (map.from_sorted (others s (map.entries men))) (λ q.
    map.get-remove nat_cmp_total men s q
    ∙ ap (λ b. cond b None (map.get men q)) (even_either_way q s)
    ∙ sym (turned (eq_by_cmp nat_cmp s q) (map.get men q) None)
    ∙ ap (λ o. cond (not (eq_by_cmp nat_cmp s q)) o None) (map.get-entries men q)
    ∙ sym (find_others s q (map.entries men))
    ∙ sym (map.get-from_sorted nat_cmp (others s (map.entries men)) q sorted)))
    ∙ map.entries-from_sorted nat_cmp (others s (map.entries men)) sorted
  where
    sorted : InOrder (others s (map.entries men))
    sorted = is_sorted-where_key nat_cmp (λ k. not (eq_by_cmp nat_cmp s k)) (map.entries men) (map.entries_sorted men)

length-others : (s : ℕ) (es : List (ℕ × Man)) → length (others s es) ≤ length es
unfolding others
length-others s [] = omega arith
length-others s (e ∷ es) = go (not (eq_by_cmp nat_cmp s e.0)) (length-others s es)
  where
    go : (b : Bool) → length (others s es) ≤ length es → length (cond b (e ∷ others s es) (others s es)) ≤ length (e ∷ es)
    go b rest = grind arith

on_board_others : (s : ℕ) (es : List (ℕ × Man)) → AreOnBoard es → AreOnBoard (others s es)
unfolding others
on_board_others s [] on = tt
on_board_others s (e ∷ es) on = go (not (eq_by_cmp nat_cmp s e.0)) (on_board_others s es on.1)
  where
    go : (b : Bool) → AreOnBoard (others s es) → AreOnBoard (cond b (e ∷ others s es) (others s es))
    go b rest = grind arith

pub shown_less : (xs : List Slot) (men : Placement) (s : ℕ) → AreShown xs men → AreShown (without_man false s xs) (map.remove men s)
shown_less xs men s is =
    let es = map.entries men in
    let same = entries_less s men in
    record {
      full = ap (without_man false s) is.full ∙ left_on 4 s es (map.entries_sorted men) is.few ∙ ap (padded 4) (sym same);
      few = subst (λ (fs : List (ℕ × Man)). length fs ≤ 4) (sym same) (let h = length-others s es in let few = is.few in omega arith);
      on_board = subst AreOnBoard (sym same) (on_board_others s es is.on_board);
    }

-- the four slots one by one
pub without_four : (s : ℕ) (a b c d : Slot) →
    let by_a = is_some (man_on s a) in
    let by_b = by_a || is_some (man_on s b) in
    let by_c = by_b || is_some (man_on s c) in
    let by_d = by_c || is_some (man_on s d) in
    cond by_a b a ∷ cond by_b c b ∷ cond by_c d c ∷ cond by_d None d ∷ [] ≡ without_man false s (a ∷ b ∷ c ∷ d ∷ [])
unfolding without_man first_of
without_four s a b c d = refl

-- the slots once a man has come to a free square: the new man, and behind it those of the squares behind
pub opened : Slot → Bool → Slot → List Slot → List Slot
opened new ahead last [] = []
opened new ahead last (x ∷ xs) = cond (ltb (place x) (place new)) x (cond ahead new last) ∷ opened new (ltb (place x) (place new)) x xs

opened_none : (n k : ℕ) (man : Man) → k < 64 → opened (Some (k, man)) false None (padded n []) ≡ padded n []
unfolding opened
opened_none zero k man k_in = refl
opened_none (suc n) k man k_in =
    ap (λ b. cond b None None ∷ opened (Some (k, man)) b None (padded n [])) (le-ltb 64 k (omega arith)) ∙ ap (λ xs. None ∷ xs) (opened_none n k man k_in)

opened_behind : (n k : ℕ) (man : Man) (p : ℕ × Man) (es : List (ℕ × Man)) → InOrder (p ∷ es) → k < 64 → k < p.0 → length es < n
    → opened (Some (k, man)) false (Some p) (padded n es) ≡ padded n (p ∷ es)
unfolding opened
opened_behind zero k man p es sorted k_in less room = absurd (omega arith)
opened_behind (suc n) k man p [] sorted k_in less room =
    ap (λ b. cond b None (Some p) ∷ opened (Some (k, man)) b None (padded n [])) (le-ltb 64 k (omega arith)) ∙ ap (λ xs. Some p ∷ xs) (opened_none n k man k_in)
opened_behind (suc n) k man p (e ∷ es) sorted k_in less room =
    let next : p.0 < e.0 = lt_of_less p.0 e.0 (first_half _ _ (first_half _ _ sorted)) in
    ap (λ b. cond b (Some e) (Some p) ∷ opened (Some (k, man)) b (Some e) (padded n es)) (le-ltb e.0 k (omega arith))
    ∙ ap (λ xs. Some p ∷ xs) (opened_behind n k man e es (second_half _ _ sorted) k_in (omega arith) (omega arith))

opened_put : (n k : ℕ) (man : Man) (last : Slot) (es : List (ℕ × Man)) → InOrder es → k < 64 → length es < n → map.find nat_cmp k es ≡ None
    → opened (Some (k, man)) true last (padded n es) ≡ padded n (map.put nat_cmp k man es)
unfolding opened
opened_put zero k man last es sorted k_in room none = absurd (omega arith)
opened_put (suc n) k man last [] sorted k_in room none =
    ap (λ b. cond b None (Some (k, man)) ∷ opened (Some (k, man)) b None (padded n [])) (le-ltb 64 k (omega arith)) ∙ ap (λ xs. Some (k, man) ∷ xs) (opened_none n k man k_in)
opened_put (suc n) k man last (e ∷ es) sorted k_in room none =
    elim (ltb e.0 k) as (λ b. ltb e.0 k ≡ b
    → (cond b (Some e) (Some (k, man)) ∷ opened (Some (k, man)) b (Some e) (padded n es)) ≡ padded (suc n) (map.put nat_cmp k man (e ∷ es))) [
      | true ↦ λ h.
          ap (λ xs. Some e ∷ xs) (opened_put n k man (Some e) es (second_half _ _ sorted) k_in (omega arith) (sym (find-later k e.0 e.1 es apart) ∙ none))
          ∙ ap (λ o. padded (suc n) (by_order o ((k, man) ∷ e ∷ es) ((e.0, man) ∷ es) (e ∷ map.put nat_cmp k man es))) (sym (cmp_greater k e.0 (ltb-true e.0 k h)))
      | false ↦ λ h.
          let low = ltb-false e.0 k h in
          let other = apart in
          let less : k < e.0 = omega arith in
          ap (λ xs. Some (k, man) ∷ xs) (opened_behind n k man e es sorted k_in less (omega arith))
          ∙ ap (λ o. padded (suc n) (by_order o ((k, man) ∷ e ∷ es) ((e.0, man) ∷ es) (e ∷ map.put nat_cmp k man es))) (sym (cmp_less k e.0 less))
    ] refl
  where
    apart : k ≢ e.0
    apart same = let bad : None ≡ Some e.1 = sym none ∙ find-here k e.0 e.1 es same in cc

pub shown_opened : (xs : List Slot) (men : Placement) (k : ℕ) (man : Man) → AreShown xs men → map.len men < 4 → k < 64 → map.get men k ≡ None
    → AreShown (opened (Some (k, man)) true None xs) (map.insert men k man)
shown_opened xs men k man is room k_in free =
    let es = map.entries men in
    let size = map.len-entries men in
    let same = map.entries-insert nat_cmp_total men k man in
    record {
      full =
          ap (opened (Some (k, man)) true None) is.full ∙ opened_put 4 k man None es (map.entries_sorted men) k_in (omega arith) (sym (map.get-entries men k) ∙ free)
          ∙ ap (padded 4) (sym same);
      few = subst (λ (fs : List (ℕ × Man)). length fs ≤ 4) (sym same) (let h = length_put k man es in omega arith);
      on_board = subst AreOnBoard (sym same) (on_board_put k man es is.on_board k_in);
    }

-- two kings alone
one_more : (men : Placement) (s : ℕ) (man : Man) → map.len (map.insert men s man) ≤ map.len men + 1
one_more men s man = by_key (map.contains_key men s) (map.len-insert nat_cmp_total men s man)
  where
    by_key : (b : Bool) → map.len (map.insert men s man) ≡ cond b (map.len men) (map.len men + 1) → map.len (map.insert men s man) ≤ map.len men + 1
    by_key b e = grind arith

pub shown_corners : AreShown (Some (0, king_of White) ∷ Some (63, king_of Black) ∷ None ∷ None ∷ []) corners
unfolding with_man
shown_corners =
    let none : map.len {K = ℕ} {X = Man} {R = nat_cmp} map.empty ≡ 0 = map.len-empty nat_cmp Man in
    let one = one_more map.empty 0 (king_of White) in
    shown_with (Some (0, king_of White) ∷ None ∷ None ∷ None ∷ []) (map.insert map.empty 0 (king_of White)) 63 (king_of Black)
    (shown_with (None ∷ None ∷ None ∷ None ∷ []) map.empty 0 (king_of White) shown_empty (omega arith) (omega arith)) (omega arith) (omega arith)

-- places rise from slot to slot
AreRising : List Slot → Type 0
AreRising [] = Unit {0}
AreRising (x ∷ []) = Unit {0}
AreRising (x ∷ y ∷ xs) = (place x ≤ place y) × AreRising (y ∷ xs)

none_rise : (n : ℕ) → AreRising (padded n [])
unfolding AreRising
none_rise zero = tt
none_rise (suc zero) = tt
none_rise (suc (suc n)) = (omega arith, none_rise (suc n))

padded_rise : (n : ℕ) (es : List (ℕ × Man)) → InOrder es → AreOnBoard es → AreRising (padded n es)
unfolding AreRising
padded_rise n [] sorted on_board = none_rise n
padded_rise zero (e ∷ es) sorted on_board = tt
padded_rise (suc zero) (e ∷ es) sorted on_board = tt
padded_rise (suc (suc n)) (e ∷ []) sorted on_board = (let lt = on_board.0 in omega arith, none_rise (suc n))
padded_rise (suc (suc n)) (e ∷ f ∷ es) sorted on_board =
    let next : e.0 < f.0 = lt_of_less e.0 f.0 (first_half _ _ (first_half _ _ sorted)) in
    (omega arith, padded_rise (suc n) (f ∷ es) (second_half _ _ sorted) on_board.1)

slots_rise : (a b c d : Slot) (men : Placement) → AreShown (a ∷ b ∷ c ∷ d ∷ []) men → (place a ≤ place b) × (place b ≤ place c) × (place c ≤ place d)
unfolding AreRising
slots_rise a b c d men is =
    let rise = subst AreRising (sym is.full) (padded_rise 4 (map.entries men) (map.entries_sorted men) is.on_board) in (rise.0, rise.1.0, rise.1.1.0)

last_empty : (a b c d : Slot) (es : List (ℕ × Man)) → a ∷ b ∷ c ∷ d ∷ [] ≡ padded 4 es → length es < 4 → place d ≡ 64
last_empty a b c d es is room = grind (arith, place)

by_tests : (new a b c d : Slot) (t u v w : Bool) → ltb (place a) (place new) ≡ t → ltb (place b) (place new) ≡ u → ltb (place c) (place new) ≡ v → ltb (place d) (place new) ≡ w
    → opened new true None (a ∷ b ∷ c ∷ d ∷ []) ≡ cond t a new ∷ cond u b (cond t new a) ∷ cond v c (cond u new b) ∷ cond w d (cond v new c) ∷ []
unfolding opened
by_tests new a b c d t u v w e f g h = grind (arith, place)

-- the slots with one man more, who stands ahead of the first, of the second, of the third or of none
pub record Comes (a b c d : Slot) (men : Placement) (new : Slot) : Type 0 where
  pub first : ltb (place a) (place new) ≡ false → AreShown (new ∷ a ∷ b ∷ c ∷ []) men
  pub second : ltb (place a) (place new) ≡ true → ltb (place b) (place new) ≡ false → AreShown (a ∷ new ∷ b ∷ c ∷ []) men
  pub third : ltb (place a) (place new) ≡ true → ltb (place b) (place new) ≡ true → ltb (place c) (place new) ≡ false → AreShown (a ∷ b ∷ new ∷ c ∷ []) men
  pub fourth : ltb (place a) (place new) ≡ true → ltb (place b) (place new) ≡ true → ltb (place c) (place new) ≡ true → AreShown (a ∷ b ∷ c ∷ new ∷ []) men

pub comes : (a b c d : Slot) (men : Placement) (k : ℕ) (man : Man) (new : Slot) → new ≡ Some (k, man) → AreShown (a ∷ b ∷ c ∷ d ∷ []) men → map.len men < 4 → k < 64 → map.get men k ≡ None → Comes a b c d (map.insert men k man) new
comes a b c d men k man new new_is is room k_in free = record {
  first = λ e.
      let le = ltb-false (place a) (place new) e in
      shown_by (by_tests new a b c d false false false false e (le-ltb (place b) (place new) (omega (arith, le, rise.0))) (le-ltb (place c) (place new) (omega (arith, le, rise.0, rise.1))) (le-ltb (place d) (place new) (omega (arith, le, rise.0, rise.1, rise.2))));
  second = λ e f.
      let le = ltb-false (place b) (place new) f in
      shown_by (by_tests new a b c d true false false false e f (le-ltb (place c) (place new) (omega (arith, le, rise.1))) (le-ltb (place d) (place new) (omega (arith, le, rise.1, rise.2))));
  third = λ e f g.
      let le = ltb-false (place c) (place new) g in
      shown_by (by_tests new a b c d true true false false e f g (le-ltb (place d) (place new) (omega (arith, le, rise.2))));
  fourth = λ e f g. shown_by (by_tests new a b c d true true true false e f g (le-ltb (place d) (place new) (omega (arith, empty, place_is, k_in))));
}
  where
    rise : (place a ≤ place b) × (place b ≤ place c) × (place c ≤ place d)
    rise = slots_rise a b c d men is

    place_is : place new ≡ k
    place_is = ap place new_is

    empty : place d ≡ 64
    empty = last_empty a b c d (map.entries men) is.full (let size = map.len-entries men in omega arith)

    shown_by : {xs : List Slot} → opened new true None (a ∷ b ∷ c ∷ d ∷ []) ≡ xs → AreShown xs (map.insert men k man)
    shown_by e = subst (λ xs. AreShown xs (map.insert men k man)) e (subst (λ n. AreShown (opened n true None (a ∷ b ∷ c ∷ d ∷ [])) (map.insert men k man)) (sym new_is) (shown_opened (a ∷ b ∷ c ∷ d ∷ []) men k man is room k_in free))

-- and those of a board
pub comes_to : (a : Inside) (men : Placement) (k : ℕ) (man : Man) (new : Slot) → new ≡ Some (k, man) → AreKept (slots_of a) → placed (slots_of a) ≡ men → map.len men < 4 → k < 64 → map.get men k ≡ None
    → Comes a.first a.second a.third a.fourth (map.insert men k man) new
comes_to a men k man new new_is kept is room k_in free = comes a.first a.second a.third a.fourth men k man new new_is (shown (slots_of a) men kept is) room k_in free
