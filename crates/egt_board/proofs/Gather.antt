-- The men of a placement, gathered from the set of their squares.
use Rattle.std.proofs.Common.{◌≡◌, ◌≢◌, ℕ, zero, suc, ◌+◌, ◌<◌, ◌≤◌, ◌↔◌, List, [], ◌∷◌, ◌++◌, ◌⊎◌, map, length, take}
use Rattle.std.proofs.Common.{drop, get_or, Option, Some, None, true, add-one, arith, refl, sym, ap, ◌∙◌, inl, inr}
use Rattle.std.proofs.Common.{subst, T}
use Rattle.egt_board.specs.Prelude.{bit_at, is_some, nat_cmp, below_all, cases_eq, cases_lt, cases_order, false≢true}
use Rattle.egt_board.specs.Prelude.{take_more, take_all, drop_all, map-append, length-append, length-drop, drop-cons}
use Rattle.egt_board.specs.Prelude.{Man, Placement, Stands, IsFree, man_entry, first_half, second_half}
use Rattle.std.specs.FinMap as placement
use Rattle.egt_board.proofs.Bits.{not_both}
use Rattle.egt_board.proofs.Placed.{find-here, find-later, Sorted, lt_of_less}

abbrev pub IsKey : ℕ → List (ℕ × Man) → Type 0
IsKey t es = is_some (placement.find nat_cmp t es) ≡ true

-- below the first key there is none
key_above : (es : List (ℕ × Man)) (k t : ℕ) → T (below_all nat_cmp k es) → IsKey t es → k < t
key_above [] k t below key = absurd (false≢true key)
key_above (e ∷ es) k t below key = elim (cases_eq t e.0) [
  | inl same ↦ let lt = lt_of_less k e.0 (first_half _ _ below) in omega arith
  | inr other ↦ key_above es k t (second_half _ _ below) (sym (ap is_some (find-later t e.0 e.1 es other)) ∙ key)
]

-- the least key of a list in order stands first
head_least : (es : List (ℕ × Man)) (s : ℕ) → Sorted es → IsKey s es → ((t : ℕ) → t < s → IsKey t es → ⊥) → (man : Man) × (rest : List (ℕ × Man)) × (es ≡ (s, man) ∷ rest)
head_least [] s sorted key least = absurd (false≢true key)
head_least (e ∷ es) s sorted key least = elim (cases_order s e.0) [
  | inl same ↦ (e.1, es, ap (λ k. (k, e.1) ∷ es) (sym same))
  | inr apart ↦ elim apart [
    | inl less ↦
        let above = key_above es e.0 s (first_half _ _ sorted) (sym (ap is_some (find-later s e.0 e.1 es (λ same. omega arith))) ∙ key) in
        absurd (omega arith)
    | inr more ↦ absurd (least e.0 more (ap is_some (find-here e.0 e.0 e.1 es refl)))
  ]
]

sorted_drop : (n : ℕ) (es : List (ℕ × Man)) → Sorted es → Sorted (drop n es)
sorted_drop zero es h = h
sorted_drop (suc n) [] h = h
sorted_drop (suc n) (e ∷ es) h = sorted_drop n es (second_half _ _ h)

-- the men on the squares before are listed, and the set has the squares of the others
pub record Gathered (men : Placement) (items : List (Man × ℕ)) (left : ℕ) : Type 0 where
  pub listed : items ≡ map man_entry (take (length items) (placement.entries men))
  pub keys : (t : ℕ) → (bit_at left t ≡ 1) ↔ IsKey t (drop (length items) (placement.entries men))

free_or_key : (o : Option Man) → (o ≡ None) ⊎ (is_some o ≡ true)
free_or_key o = grind arith

pub Gathered-none : (men : Placement) (left : ℕ) → ((t : ℕ) → (bit_at left t ≡ 0) ↔ IsFree men t) → ((t : ℕ) → bit_at left t < 2) → Gathered men [] left
Gathered-none men left free small = record {
  listed = refl;
  keys = λ t.
      let is : placement.get men t ≡ placement.find nat_cmp t (placement.entries men) = placement.get-entries men t in (
        λ one. elim (free_or_key (placement.find nat_cmp t (placement.entries men))) [
          | inl none ↦ not_both _ ((free t).1 (is ∙ none)) one
          | inr key ↦ key
        ],
        λ key. elim (cases_eq (bit_at left t) 1) [
          | inl one ↦ one
          | inr other ↦
              let bit = small t in
              let zero_bit : bit_at left t ≡ 0 = omega arith in
              absurd (false≢true (sym (ap is_some (sym is ∙ (free t).0 zero_bit)) ∙ key))
        ],
      );
}

-- the next square
pub record NextMan (men : Placement) (items : List (Man × ℕ)) (s : ℕ) : Type 0 where
  pub man : Man
  pub rest : List (ℕ × Man)
  pub room : length items < length (placement.entries men)
  pub here : (d : ℕ × Man) → get_or (placement.entries men) (length items) d ≡ (s, man)
  pub rest_is : drop (length items) (placement.entries men) ≡ (s, man) ∷ rest
  pub after : drop (length items + 1) (placement.entries men) ≡ rest

pub next_man : (men : Placement) (items : List (Man × ℕ)) (left s : ℕ) → Gathered men items left → bit_at left s ≡ 1 → ((t : ℕ) → t < s → bit_at left t ≡ 0) → NextMan men items s
next_man men items left s g one least =
    of_head (head_least (drop n es) s (sorted_drop n es (placement.entries_sorted men)) ((g.keys s).0 one) (λ t less key. not_both _ (least t less) ((g.keys t).1 key)))
  where
    es : List (ℕ × Man)
    es = placement.entries men

    n : ℕ
    n = length items

    of_head : (man : Man) × (rest : List (ℕ × Man)) × (drop n es ≡ (s, man) ∷ rest) → NextMan men items s
    of_head h =
        let room : n < length es = elim (cases_lt n (length es)) [
          | inl less ↦ less
          | inr past ↦ let none = drop_all n es past in let bad : [] ≡ (s, h.0) ∷ h.1 = sym none ∙ h.2 in absurd (cc)
        ] in
        let both : (d : ℕ × Man) → get_or es n d ∷ drop (suc n) es ≡ (s, h.0) ∷ h.1 = λ d. sym (drop-cons es n d room) ∙ h.2 in
        record {
          man = h.0;
          rest = h.1;
          room = room;
          rest_is = h.2;
          here = λ d. ap (λ (xs : List (ℕ × Man)). get_or xs 0 (s, h.0)) (both d);
          after = rw add-one (ap (drop 1) (both (s, h.0)));
        }

-- each entry of a list in order is found by its key
find_at : (es : List (ℕ × Man)) (i s : ℕ) (man : Man) (d : ℕ × Man) → Sorted es → i < length es → get_or es i d ≡ (s, man) → placement.find nat_cmp s es ≡ Some man
find_at [] i s man d sorted i_in e = absurd (omega arith)
find_at (x ∷ es) zero s man d sorted i_in e =
    find-here s x.0 x.1 es (sym (ap (λ (p : ℕ × Man). p.0) e)) ∙ ap Some (ap (λ (p : ℕ × Man). p.1) e)
find_at (x ∷ es) (suc i) s man d sorted i_in e =
    let rest : placement.find nat_cmp s es ≡ Some man = find_at es i s man d (second_half _ _ sorted) (omega arith) e in
    let above : x.0 < s = key_above es x.0 s (first_half _ _ sorted) (ap is_some rest) in
    find-later s x.0 x.1 es (λ same. omega arith) ∙ rest

pub Gathered-more : (men : Placement) (items : List (Man × ℕ)) (left left' s : ℕ) (man : Man) → Gathered men items left → bit_at left s ≡ 1 → ((t : ℕ) → t < s → bit_at left t ≡ 0)
    → bit_at left' s ≡ 0 → ((t : ℕ) → t ≢ s → bit_at left' t ≡ bit_at left t) → Stands men s man → Gathered men (items ++ (man, s) ∷ []) left'
Gathered-more men items left left' s man g one least gone others stands = record {
  listed =
      ap (λ xs. xs ++ (man, s) ∷ []) g.listed
      ∙ ap (λ m. map man_entry (take n es) ++ (m, s) ∷ []) (sym same)
      ∙ sym (map-append man_entry (take n es) ((s, next.man) ∷ []))
      ∙ ap (map man_entry) (ap (λ x. take n es ++ x ∷ []) (sym (next.here (s, man))) ∙ sym (take_more es n (s, man) next.room))
      ∙ ap (λ k. map man_entry (take k es)) (sym longer);
  keys = λ t. subst (λ k. (bit_at left' t ≡ 1) ↔ IsKey t (drop k es)) (sym longer) (subst (λ (xs : List (ℕ × Man)). (bit_at left' t ≡ 1) ↔ IsKey t xs) (sym next.after)
      (elim (cases_eq t s) [
        | inl e ↦ (λ bit. not_both _ (ap (bit_at left') e ∙ gone) bit, λ key. let lt = key_above next.rest s t below key in absurd (omega arith))
        | inr other ↦ (
          λ bit. sym (ap is_some (ap (placement.find nat_cmp t) next.rest_is ∙ find-later t s next.man next.rest other)) ∙ (g.keys t).0 (sym (others t other) ∙ bit),
          λ key. others t other ∙ (g.keys t).1 (ap is_some (ap (placement.find nat_cmp t) next.rest_is ∙ find-later t s next.man next.rest other) ∙ key),
        )
      ]));
}
  where
    es : List (ℕ × Man)
    es = placement.entries men

    n : ℕ
    n = length items

    next : NextMan men items s
    next = next_man men items left s g one least

    sorted : Sorted es
    sorted = placement.entries_sorted men

    same : next.man ≡ man
    same =
        let found : Some next.man ≡ Some man = sym (find_at es n s next.man (s, man) sorted next.room (next.here (s, man))) ∙ sym (placement.get-entries men s) ∙ stands in cc

    longer : length (items ++ (man, s) ∷ []) ≡ n + 1
    longer = length-append items ((man, s) ∷ [])

    below : T (below_all nat_cmp s next.rest)
    below = first_half _ _ (subst Sorted next.rest_is (sorted_drop n es sorted))

pub Gathered-all : (men : Placement) (items : List (Man × ℕ)) (left : ℕ) → Gathered men items left → ((t : ℕ) → bit_at left t ≡ 0) → items ≡ map man_entry (placement.entries men)
Gathered-all men items left g none = g.listed ∙ ap (map man_entry) (elim (cases_lt n (length es)) [
  | inl less ↦ absurd (found less)
  | inr all ↦ take_all n es all
])
  where
    es : List (ℕ × Man)
    es = placement.entries men

    n : ℕ
    n = length items

    found : n < length es → ⊥
    found less = go (drop n es) refl
      where
        go : (ds : List (ℕ × Man)) → drop n es ≡ ds → ⊥
        go [] e = let size = length-drop n es in let same = ap length e in omega arith
        go (x ∷ ds) e = not_both _ (none x.0) ((g.keys x.0).1 (ap is_some (ap (placement.find nat_cmp x.0) e ∙ find-here x.0 x.0 x.1 ds refl)))

-- a man stands on the next square
pub next_stands : (men : Placement) (items : List (Man × ℕ)) (left s : ℕ) (g : Gathered men items left) (one : bit_at left s ≡ 1) (least : (t : ℕ) → t < s → bit_at left t ≡ 0) → (man : Man) × Stands men s man
next_stands men items left s g one least =
    let next = next_man men items left s g one least in
    (next.man, placement.get-entries men s ∙ find_at (placement.entries men) (length items) s next.man (s, next.man) (placement.entries_sorted men) next.room (next.here (s, next.man)))

-- and there is room for it
pub next_room : (men : Placement) (items : List (Man × ℕ)) (left s : ℕ) → Gathered men items left → bit_at left s ≡ 1 → ((t : ℕ) → t < s → bit_at left t ≡ 0) → placement.len men ≤ 4 → length items < 4
next_room men items left s g one least few =
    let next = next_man men items left s g one least in
    let room = next.room in
    let size = placement.len-entries men in
    omega arith
