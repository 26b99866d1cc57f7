-- The men of a board beside its kings, chosen among the slots.
use Rattle.std.proofs.Common.{◌≡◌, ◌≢◌, ◌⊎◌, ℕ, zero, suc, ◌<◌, Bool, true, false, cond, List, [], ◌∷◌, Option, Some}
use Rattle.std.proofs.Common.{None, IfSome, arith, refl, sym, ap, ◌∙◌, subst, inl, inr, T}
use Rattle.egt_board.specs.Prelude.{option_map, false≢true, without_king, listed, side_number, is_king_kind, second_half}
use Rattle.egt_board.specs.Prelude.{nat_cmp, below_all, king_of, holds_king, AreBeside, Placement, first_half, HasKings}
use Rattle.egt_board.specs.Prelude.{Kind, K, Man, Side, White, Black, Slot, padded, placed, InOrder, AreKept, Stands}
use Rattle.std.specs.FinMap as map
use Rattle.egt_board.proofs.SlotSought.{AnyHolds, holds_found, found_holds}
use Rattle.egt_board.proofs.Parts.{of_four}
use Rattle.egt_board.proofs.Slots.{shown, listed-shown}
use Rattle.egt_board.proofs.Placed.{lt_of_less}

-- the square of the one slot's man is the lesser, if there are both
abbrev Before : Slot → Slot → Type 0
Before x y = IfSome x (λ e. IfSome y (λ d. e.0 < d.0))

abbrev Ahead : Slot → List Slot → Type 0
Ahead x [] = Unit {0}
Ahead x (y ∷ ys) = Before x y × Ahead x ys

-- in order of square, and behind an empty slot only empty ones
abbrev AreInRow : List Slot → Type 0
AreInRow [] = Unit {0}
AreInRow (x ∷ []) = Unit {0}
AreInRow (x ∷ y ∷ ys) = Ahead x (y ∷ ys) × (x ≡ None → y ≡ None) × AreInRow (y ∷ ys)

ahead_none : (n : ℕ) → Ahead None (padded n [])
ahead_none zero = tt
ahead_none (suc n) = (tt, ahead_none n)

ahead_some : (n : ℕ) (e : ℕ × Man) (es : List (ℕ × Man)) → T (below_all nat_cmp e.0 es) → Ahead (Some e) (padded n es)
ahead_some zero e es below = tt
ahead_some (suc n) e [] below = (tt, ahead_some n e [] below)
ahead_some (suc n) e (f ∷ es) below = (lt_of_less e.0 f.0 (first_half _ _ below), ahead_some n e es (second_half _ _ below))

in_row : (n : ℕ) (es : List (ℕ × Man)) → InOrder es → AreInRow (padded n es)
in_row zero es sorted = tt
in_row (suc zero) [] sorted = tt
in_row (suc zero) (e ∷ es) sorted = tt
in_row (suc (suc n)) [] sorted = (ahead_none (suc n), (λ e. refl), in_row (suc n) [] sorted)
in_row (suc (suc n)) (e ∷ []) sorted = (ahead_some (suc n) e [] tt, (λ e. refl), in_row (suc n) [] tt)
in_row (suc (suc n)) (e ∷ f ∷ es) sorted = (ahead_some (suc n) e (f ∷ es) (first_half _ _ sorted), (λ e. absurd (cc)), in_row (suc n) (f ∷ es) (second_half _ _ sorted))

-- the slots of a board and what stands on it
record Row (a b c d : Slot) (men : Placement) : Type 0 where
  row : AreInRow (a ∷ b ∷ c ∷ d ∷ [])
  found : (s : ℕ) (man : Man) → Stands men s man → AnyHolds (a ∷ b ∷ c ∷ d ∷ []) s man
  stands : (s : ℕ) (man : Man) → AnyHolds (a ∷ b ∷ c ∷ d ∷ []) s man → Stands men s man

row_of : (a b c d : Slot) (men : Placement) → AreKept (a ∷ b ∷ c ∷ d ∷ []) → placed (a ∷ b ∷ c ∷ d ∷ []) ≡ men → Row a b c d men
row_of a b c d men kept is =
    let same : listed (a ∷ b ∷ c ∷ d ∷ []) ≡ map.entries men = listed-shown (a ∷ b ∷ c ∷ d ∷ []) men (shown (a ∷ b ∷ c ∷ d ∷ []) men kept is) in
    record {
      row = subst AreInRow (sym kept.full) (in_row 4 (listed (a ∷ b ∷ c ∷ d ∷ [])) kept.in_order);
      found = λ s man there. found_holds (a ∷ b ∷ c ∷ d ∷ []) s man (ap (map.find nat_cmp s) same ∙ sym (map.get-entries men s) ∙ there);
      stands = λ s man h. map.get-entries men s ∙ ap (map.find nat_cmp s) (sym same) ∙ holds_found (a ∷ b ∷ c ∷ d ∷ []) s man kept.in_order h;
    }

-- who is in a slot with a king, and in one without
kind_told : (k : Kind) → is_king_kind k ≡ true → k ≡ K
kind_told k h = grind arith

king_held : (x : Slot) (s : ℕ) (man : Man) → holds_king x ≡ true → x ≡ Some (s, man) → man.kind ≡ K
king_held x s man h e = kind_told man.kind (sym (ap holds_king e) ∙ h)

none_held : (x : Slot) (s : ℕ) (man : Man) → holds_king x ≡ false → x ≡ Some (s, man) → man.kind ≢ K
none_held x s man h e king = false≢true (sym h ∙ ap holds_king e ∙ ap is_king_kind king)

-- the entry of a slot
abbrev entry_of : Slot → Option (Man × ℕ)
entry_of x = option_map (λ e. (e.1, e.0)) x

-- two slots without kings, where the others have them
both_beside : (men : Placement) (x y : Slot) → ((s : ℕ) (man : Man) → Stands men s man → man.kind ≢ K → (x ≡ Some (s, man)) ⊎ (y ≡ Some (s, man)))
    → ((s : ℕ) (man : Man) → x ≡ Some (s, man) → Stands men s man) → ((s : ℕ) (man : Man) → y ≡ Some (s, man) → Stands men s man)
    → holds_king x ≡ false → holds_king y ≡ false → Before x y → (x ≡ None → y ≡ None) → AreBeside men (entry_of x) (entry_of y)
both_beside men x y all one other x_beside y_beside before from_first = record {
  one = of_slot x x_beside one;
  other = of_slot y y_beside other;
  all = λ s man stands beside. elim (all s man stands beside) [
    | inl e ↦ inl (ap entry_of e)
    | inr e ↦ inr (ap entry_of e)
  ];
  in_order = ordered x y before;
  from_first = emptied x y from_first;
}
  where
    of_slot : (x : Slot) → holds_king x ≡ false → ((s : ℕ) (man : Man) → x ≡ Some (s, man) → Stands men s man) → IfSome (entry_of x) (λ e. Stands men e.1 e.0 × (e.0.kind ≢ K))
    of_slot None beside there = tt
    of_slot (Some e) beside there = (there e.0 e.1 refl, none_held (Some e) e.0 e.1 beside refl)

    ordered : (x y : Slot) → Before x y → IfSome (entry_of x) (λ e. IfSome (entry_of y) (λ d. e.1 < d.1))
    ordered x y before = grind arith

    emptied : (x y : Slot) → (x ≡ None → y ≡ None) → entry_of x ≡ None → entry_of y ≡ None
    emptied h0 y from is = grind arith

-- a slot's king is the one king or the other
record IsOnKing (x : Slot) (white black : ℕ) : Type 0 where
  held : ℕ × Man
  is : x ≡ Some held
  on : (held.0 ≡ white) ⊎ (held.0 ≡ black)

pub king_is : (man : Man) → man.kind ≡ K → (man ≡ king_of White) ⊎ (man ≡ king_of Black)
king_is man e = grind arith

on_king : (men : Placement) (kings : HasKings men) (x : Slot) → holds_king x ≡ true → ((s : ℕ) (man : Man) → x ≡ Some (s, man) → Stands men s man) → IsOnKing x kings.white kings.black
on_king men kings None h there = absurd (false≢true h)
on_king men kings (Some e) h there = record {
  held = e;
  is = refl;
  on = elim (king_is e.1 (kind_told e.1.kind h)) [
    | inl is ↦ inl (kings.white_there.only e.0 (there e.0 e.1 refl ∙ ap Some is))
    | inr is ↦ inr (kings.black_there.only e.0 (there e.0 e.1 refl ∙ ap Some is))
  ];
}

on_two : (w b p q r : ℕ) → p < q → p < r → q < r → (p ≡ w) ⊎ (p ≡ b) → (q ≡ w) ⊎ (q ≡ b) → (r ≡ w) ⊎ (r ≡ b) → ⊥
on_two w b p q r pq pr qr h h' h'' = grind arith

-- no three slots have kings
three_kings : (men : Placement) → HasKings men → (x y z : Slot) → ((s : ℕ) (man : Man) → x ≡ Some (s, man) → Stands men s man) → ((s : ℕ) (man : Man) → y ≡ Some (s, man) → Stands men s man)
    → ((s : ℕ) (man : Man) → z ≡ Some (s, man) → Stands men s man) → holds_king x ≡ true → holds_king y ≡ true → holds_king z ≡ true → Before x y → Before x z → Before y z → ⊥
three_kings men kings x y z x_there y_there z_there x_is y_is z_is xy xz yz =
    let p = on_king men kings x x_is x_there in
    let q = on_king men kings y y_is y_there in
    let r = on_king men kings z z_is z_there in
    on_two kings.white kings.black p.held.0 q.held.0 r.held.0
    (before x y p.held q.held p.is q.is xy) (before x z p.held r.held p.is r.is xz) (before y z q.held r.held q.is r.is yz) p.on q.on r.on
  where
    before : (x y : Slot) (e d : ℕ × Man) → x ≡ Some e → y ≡ Some d → Before x y → e.0 < d.0
    before x y e d e_is d_is h = subst (λ y. Before (Some e) y) d_is (subst (λ x. Before x y) e_is h)

-- nor does one slot have both
one_slot : (men : Placement) (kings : HasKings men) (a b c d x : Slot) → Row a b c d men → ((s : ℕ) (side : Side) → AnyHolds (a ∷ b ∷ c ∷ d ∷ []) s (king_of side) → x ≡ Some (s, king_of side)) → ⊥
one_slot men kings a b c d x row there =
    let white = there kings.white White (row.found kings.white (king_of White) kings.white_there.stands) in
    let black = there kings.black Black (row.found kings.black (king_of Black) kings.black_there.stands) in
    let sides = ap side_in (sym white ∙ black) in omega arith
  where
    side_in : Slot → ℕ
    side_in None = 0
    side_in (Some e) = side_number e.1.side

no_king : (x : Slot) (s : ℕ) (side : Side) → holds_king x ≡ false → x ≡ Some (s, king_of side) → ⊥
no_king x s side h e = none_held x s (king_of side) h e refl

-- the men beside the kings are those of the first slot without one and of the last
pub aside : (a b c d : Slot) (men : Placement) → HasKings men → AreKept (a ∷ b ∷ c ∷ d ∷ []) → placed (a ∷ b ∷ c ∷ d ∷ []) ≡ men
    → AreBeside men (entry_of (without_king a b c)) (entry_of (without_king d c b))
unfolding AnyHolds
aside a b c d men kings kept view = of_tests (holds_king a) (holds_king b) (holds_king c) (holds_king d) refl refl refl refl
  where
    it : Row a b c d men
    it = row_of a b c d men kept view

    in_a : (s : ℕ) (man : Man) → a ≡ Some (s, man) → Stands men s man
    in_a s man e = it.stands s man (inl e)

    in_b : (s : ℕ) (man : Man) → b ≡ Some (s, man) → Stands men s man
    in_b s man e = it.stands s man (inr (inl e))

    in_c : (s : ℕ) (man : Man) → c ≡ Some (s, man) → Stands men s man
    in_c s man e = it.stands s man (inr (inr (inl e)))

    in_d : (s : ℕ) (man : Man) → d ≡ Some (s, man) → Stands men s man
    in_d s man e = it.stands s man (inr (inr (inr (inl e))))

    ab : Before a b
    ab = it.row.0.0

    ac : Before a c
    ac = it.row.0.1.0

    ad : Before a d
    ad = it.row.0.1.1.0

    bc : Before b c
    bc = it.row.2.0.0

    bd : Before b d
    bd = it.row.2.0.1.0

    cd : Before c d
    cd = it.row.2.2.0.0

    a_b : a ≡ None → b ≡ None
    a_b = it.row.1

    b_c : b ≡ None → c ≡ None
    b_c = it.row.2.1

    c_d : c ≡ None → d ≡ None
    c_d = it.row.2.2.1

    of_tests : (p q r s : Bool) → holds_king a ≡ p → holds_king b ≡ q → holds_king c ≡ r → holds_king d ≡ s → AreBeside men (entry_of (cond p (cond q c b) a)) (entry_of (cond s (cond r b c) d))
    of_tests false false true true ha hb hc hd = both_beside men a b (λ t man stands beside.
        of_four (it.found t man stands) (λ e. inl e) (λ e. inr e) (λ e. absurd (beside (king_held c t man hc e)))
        (λ e. absurd (beside (king_held d t man hd e)))) in_a in_b ha hb ab a_b
    of_tests false true false true ha hb hc hd = both_beside men a c (λ t man stands beside.
        of_four (it.found t man stands) (λ e. inl e) (λ e. absurd (beside (king_held b t man hb e))) (λ e. inr e)
        (λ e. absurd (beside (king_held d t man hd e)))) in_a in_c ha hc ac (λ e. b_c (a_b e))
    of_tests false true true false ha hb hc hd = both_beside men a d (λ t man stands beside.
        of_four (it.found t man stands) (λ e. inl e) (λ e. absurd (beside (king_held b t man hb e)))
        (λ e. absurd (beside (king_held c t man hc e)))
        (λ e. inr e)) in_a in_d ha hd ad (λ e. c_d (b_c (a_b e)))
    of_tests true false false true ha hb hc hd = both_beside men b c (λ t man stands beside.
        of_four (it.found t man stands) (λ e. absurd (beside (king_held a t man ha e))) (λ e. inl e) (λ e. inr e)
        (λ e. absurd (beside (king_held d t man hd e)))) in_b in_c hb hc bc b_c
    of_tests true false true false ha hb hc hd = both_beside men b d (λ t man stands beside.
        of_four (it.found t man stands) (λ e. absurd (beside (king_held a t man ha e))) (λ e. inl e)
        (λ e. absurd (beside (king_held c t man hc e)))
        (λ e. inr e)) in_b in_d hb hd bd (λ e. c_d (b_c e))
    of_tests true true false false ha hb hc hd = both_beside men c d (λ t man stands beside.
        of_four (it.found t man stands) (λ e. absurd (beside (king_held a t man ha e)))
        (λ e. absurd (beside (king_held b t man hb e))) (λ e. inl e)
        (λ e. inr e)) in_c in_d hc hd cd c_d
    of_tests true true true s ha hb hc hd = absurd (three_kings men kings a b c in_a in_b in_c ha hb hc ab ac bc)
    of_tests true true false true ha hb hc hd = absurd (three_kings men kings a b d in_a in_b in_d ha hb hd ab ad bd)
    of_tests true false true true ha hb hc hd = absurd (three_kings men kings a c d in_a in_c in_d ha hc hd ac ad cd)
    of_tests false true true true ha hb hc hd = absurd (three_kings men kings b c d in_b in_c in_d hb hc hd bc bd cd)
    of_tests p false false false ha hb hc hd = absurd (one_slot men kings a b c d a it (λ t side h.
        of_four h (λ e. e) (λ e. absurd (no_king b t side hb e)) (λ e. absurd (no_king c t side hc e))
        (λ e. absurd (no_king d t side hd e))))
    of_tests false true false false ha hb hc hd = absurd (one_slot men kings a b c d b it (λ t side h.
        of_four h (λ e. absurd (no_king a t side ha e)) (λ e. e) (λ e. absurd (no_king c t side hc e))
        (λ e. absurd (no_king d t side hd e))))
    of_tests false false true false ha hb hc hd = absurd (one_slot men kings a b c d c it (λ t side h.
        of_four h (λ e. absurd (no_king a t side ha e)) (λ e. absurd (no_king b t side hb e)) (λ e. e)
        (λ e. absurd (no_king d t side hd e))))
    of_tests false false false true ha hb hc hd = absurd (one_slot men kings a b c d d it (λ t side h.
        of_four h (λ e. absurd (no_king a t side ha e)) (λ e. absurd (no_king b t side hb e))
        (λ e. absurd (no_king c t side hc e)) (λ e. e)))
