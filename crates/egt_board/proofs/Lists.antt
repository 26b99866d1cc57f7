-- A list of men and the placement that it gives.
use Rattle.std.proofs.Common.{◌≡◌, ◌≢◌, ℕ, zero, suc, ◌+◌, ◌<◌, ◌≤◌, List, [], ◌∷◌, ◌++◌, map, length, take, get_or}
use Rattle.std.proofs.Common.{Some, None, Bool, cond, arith, refl, sym, ap, ◌∙◌, inl, inr, subst}
use Rattle.egt_board.specs.Prelude.{nat_cmp, nat_cmp_total, cases_eq, map-append, take-map, get_or-take, get_or-map}
use Rattle.egt_board.specs.Prelude.{take_more, length-take, length-map, Man, Placement, entry_of, men_of, squares_of}
use Rattle.egt_board.specs.Prelude.{FitsBoard}
use Rattle.std.specs.FinMap as placement
use Rattle.egt_board.proofs.Placed.{find-here, find-later}

-- a square where nothing is put is on no entry
find-none : (xs : List (Man × ℕ)) (s : ℕ) → placement.find nat_cmp s (map entry_of xs) ≡ None → (j : ℕ) → j < length xs → get_or (squares_of xs) j 0 ≢ s
find-none [] s none j j_in = λ e. omega arith
find-none (x ∷ xs) s none zero j_in = λ e. some_none (sym (find-here s x.1 x.0 (map entry_of xs) (sym e)) ∙ none)
  where
    some_none : {A : Type 0} → Some x.0 ≡ None → A
    some_none e = absurd (cc)
find-none (x ∷ xs) s none (suc j) j_in = elim (cases_eq s x.1) [
  | inl e ↦ absurd (some_none (sym (find-here s x.1 x.0 (map entry_of xs) e) ∙ none))
  | inr other ↦ find-none xs s (sym (find-later s x.1 x.0 (map entry_of xs) other) ∙ none) j (omega arith)
]
  where
    some_none : Some x.0 ≡ None → ⊥
    some_none e = cc

-- a square with a man on it is on some entry
find-some : (xs : List (Man × ℕ)) (s : ℕ) (man : Man) → placement.find nat_cmp s (map entry_of xs) ≡ Some man → (j : ℕ) × (j < length xs) × (get_or (squares_of xs) j 0 ≡ s)
find-some [] s man some = absurd (cc)
find-some (x ∷ xs) s man some = elim (cases_eq s x.1) [
  | inl e ↦ (0, omega arith, sym e)
  | inr other ↦ later (find-some xs s man (sym (find-later s x.1 x.0 (map entry_of xs) other) ∙ some))
]
  where
    later : (j : ℕ) × (j < length xs) × (get_or (squares_of xs) j 0 ≡ s) → (j : ℕ) × (j < length (x ∷ xs)) × (get_or (squares_of (x ∷ xs)) j 0 ≡ s)
    later w = (suc w.0, omega (arith, w.1), w.2)

get-men_of : (xs : List (Man × ℕ)) (s : ℕ) → placement.get (men_of xs) s ≡ placement.find nat_cmp s (map entry_of xs)
unfolding men_of
get-men_of xs s = placement.get-from_entries nat_cmp_total (map entry_of xs) s

pub men_of-push : (xs : List (Man × ℕ)) (man : Man) (s : ℕ) → placement.get (men_of xs) s ≡ None → men_of (xs ++ (man, s) ∷ []) ≡ placement.insert (men_of xs) s man
unfolding men_of
men_of-push xs man s free =
    ap placement.from_entries (map-append entry_of xs ((man, s) ∷ []))
    ∙ placement.from_entries_push nat_cmp_total placement.nat_cmp-IsAntisymmetric (map entry_of xs) s man (sym (get-men_of xs s) ∙ free)

-- the first i squares
squares_of-take : (xs : List (Man × ℕ)) (i j : ℕ) → j < i → get_or (squares_of (take i xs)) j 0 ≡ get_or (squares_of xs) j 0
squares_of-take xs i j j_in =
    ap (λ ss. get_or ss j 0) (sym (take-map (λ (e : Man × ℕ). e.1) i xs)) ∙ get_or-take i (squares_of xs) j 0 j_in

pub squares_of-at : (xs : List (Man × ℕ)) (i : ℕ) (d : Man × ℕ) → i < length xs → get_or (squares_of xs) i 0 ≡ (get_or xs i d).1
squares_of-at xs i d i_in = get_or-map (λ (e : Man × ℕ). e.1) xs i d 0 i_in

-- the first i men are on the board, no two on one square
pub record Laid (board : Placement) (men : List (Man × ℕ)) (i : ℕ) : Type 0 where
  pub shown : board ≡ men_of (take i men)
  pub apart : (j k : ℕ) → j < k → k < i → get_or (squares_of men) j 0 ≢ get_or (squares_of men) k 0

pub Laid-none : (men : List (Man × ℕ)) → Laid placement.empty men 0
unfolding men_of
Laid-none men = record { shown = refl; apart = λ j k less k_in. absurd (omega arith) }

-- one more man, on a free square
pub Laid-more : (board : Placement) (men : List (Man × ℕ)) (i s : ℕ) (man : Man) (d : Man × ℕ) → i < length men → get_or men i d ≡ (man, s)
    → placement.get board s ≡ None → Laid board men i → Laid (placement.insert board s man) men (i + 1)
Laid-more board men i s man d i_in e free laid = record {
  shown =
      ap (λ b. placement.insert b s man) laid.shown
      ∙ sym (men_of-push (take i men) man s before)
      ∙ ap men_of (ap (λ x. take i men ++ x ∷ []) (sym e) ∙ sym (take_more men i d i_in));
  apart = λ j k less k_in. elim (cases_eq k i) [
    | inl last ↦ subst (λ x. get_or (squares_of men) j 0 ≢ get_or (squares_of men) x 0) (sym last)
        (λ same. find-none (take i men) s (sym (get-men_of (take i men) s) ∙ before) j (j_below j k less last)
        (squares_of-take men i j (omega arith) ∙ same ∙ squares_of-at men i d i_in ∙ ap (λ (x : Man × ℕ). x.1) e))
    | inr other ↦ laid.apart j k less (omega arith)
  ];
}
  where
    before : placement.get (men_of (take i men)) s ≡ None
    before = ap (λ b. placement.get b s) (sym laid.shown) ∙ free

    j_below : (j k : ℕ) → j < k → k ≡ i → j < length (take i men)
    j_below j k less last = let n = length-take i men in omega arith

-- a square that is taken already is there twice
pub Laid-twice : (board : Placement) (men : List (Man × ℕ)) (i s : ℕ) (man other : Man) (d : Man × ℕ) → i < length men → get_or men i d ≡ (man, s)
    → placement.get board s ≡ Some other → Laid board men i → ¬ FitsBoard men
Laid-twice board men i s man other d i_in e taken laid fits = grind (arith, find-some, get-men_of, length-take, squares_of-take, squares_of-at)

len-from_entries : (es : List (ℕ × Man)) → placement.len (placement.from_entries {R = nat_cmp} es) ≤ length es
len-from_entries [] = let e = placement.len-empty nat_cmp Man in omega arith
len-from_entries (x ∷ es) =
    let e = placement.len-insert nat_cmp_total (placement.from_entries {R = nat_cmp} es) x.0 x.1 in
    let ih = len-from_entries es in
    bound (placement.contains_key (placement.from_entries {R = nat_cmp} es) x.0) _ _ _ e ih
  where
    bound : (b : Bool) (l m n : ℕ) → l ≡ cond b m (m + 1) → m ≤ n → l ≤ suc n
    bound b l m n e le = grind arith

-- a list has no fewer men than its placement
pub len-men_of : (xs : List (Man × ℕ)) → placement.len (men_of xs) ≤ length xs
unfolding men_of
len-men_of xs = subst (λ n. placement.len (placement.from_entries {R = nat_cmp} (map entry_of xs)) ≤ n) (length-map xs entry_of) (len-from_entries (map entry_of xs))

-- and fewer stand there than are still to come
pub Laid-room : (board : Placement) (men : List (Man × ℕ)) (i : ℕ) → i < length men → length men ≤ 4 → Laid board men i → placement.len board < 4
Laid-room board men i i_in few laid = grind (arith, len-men_of, take, length-take)
