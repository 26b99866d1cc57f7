-- The men of a class found on their squares.
use Rattle.std.proofs.Common.{◌≡◌, ◌≢◌, ◌⊎◌, ℕ, ◌<◌, Bool, true, false, cond, List, [], ◌∷◌, ◌++◌, map, Option, Some}
use Rattle.std.proofs.Common.{None, arith, refl, sym, ap, ◌∙◌, inl, inr, subst, ◌↔◌, IsTrue}
use Rattle.egt_index.specs.Prelude.{option_to_list, option_map, cases_eq, Side, White, Black, K, Man, king_of}
use Rattle.egt_index.specs.Prelude.{HasBeside, StandsBeside, is_man, other_side, Placement, Stands, one_man}
use Rattle.egt_index.specs.Prelude.{get-remove_same, get-remove_other, Setup, IsAdmissible, IsKingOn, turned_man}
use Rattle.egt_index.specs.Prelude.{material_of, men_in, IsOf, tally, AreCounted, men_in_order, men_beside, Entry}
use Rattle.egt_index.specs.Prelude.{Stood, Holds, IsOn, IsAmong, IsFirst, IsInNameOrder}
use Rattle.std.specs.FinMap as placement
use Rattle.egt_index.proofs.Counted.{man_told, count_cons, counted_rest, first_is_there}
use Rattle.egt_index.proofs.Tallied.{tests_alike, in_class}
use Rattle.egt_board.proofs.KingsAside.{king_is}

pub turned_back : (flips : Bool) (man : Man) → turned_man flips (turned_man flips man) ≡ man
turned_back flips man = grind arith

tested_turned : (flips : Bool) (a b : Man) → is_man a (turned_man flips b) ≡ is_man (turned_man flips a) b
tested_turned flips a b = grind (arith, tests_alike, man_told, turned_back)

tally_turned : (flips : Bool) (man : Man) (list : List Man) → tally man (map (turned_man flips) list) ≡ tally (turned_man flips man) list
tally_turned flips man [] = refl
tally_turned flips man (other ∷ list) =
    let first = count_cons (turned_man flips other) man (map (turned_man flips) list) in
    let second = count_cons other (turned_man flips man) list in
    let same = ap (λ b. cond {A = ℕ} b 1 0) (tested_turned flips man other) in
    let rest = tally_turned flips man list in omega arith

-- the men of a position of the class, in its colours
pub counted_turned : (c : ℕ) (flips : Bool) (p : Setup) → IsOf c flips p → AreCounted p.men (map (turned_man flips) (men_in_order (material_of c)))
counted_turned c flips p is_of man = is_of.men man ∙ of_flips flips ∙ sym (in_class c (turned_man flips man)) ∙ sym (tally_turned flips man (men_in_order (material_of c)))
  where
    of_flips : (flips : Bool) → men_in c (cond flips (turned_man true man).side man.side) man.kind ≡ men_in c (turned_man flips man).side (turned_man flips man).kind
    of_flips flips = grind arith

-- where the kings stand, in colours exchanged where `flips`
pub record KingsOn (flips : Bool) (men : Placement) (w b : ℕ) : Type 0 where
  pub white_in : w < 64
  pub black_in : b < 64
  pub apart : w ≢ b
  pub white : Stands men w (turned_man flips (king_of White))
  pub black : Stands men b (turned_man flips (king_of Black))
  pub only : (s : ℕ) (man : Man) → man.kind ≡ K → Stands men s man → (s ≡ w) ⊎ (s ≡ b)

king_kind : (flips : Bool) (side : Side) → (turned_man flips (king_of side)).kind ≡ K
king_kind flips side = grind arith

pub kings_on : (flips : Bool) (p : Setup) (side other : Side) (w b : ℕ) → IsAdmissible p → side ≡ cond flips Black White → other ≡ other_side side → IsKingOn p.men side w → IsKingOn p.men other b → KingsOn flips p.men w b
kings_on flips p side other w b ok side_is other_is white black = grind (arith, king_is, one_man)

-- the same by the kings' squares in the colours of the board
pub kings_by : (flips : Bool) (p : Setup) (w b : ℕ) → IsAdmissible p → IsKingOn p.men White w → IsKingOn p.men Black b → KingsOn flips p.men (cond flips b w) (cond flips w b)
kings_by flips p w b ok white black = grind (arith, kings_on)

-- no other man stands where the kings do
off_kings : (flips : Bool) (men : Placement) (w b s : ℕ) (man : Man) → KingsOn flips men w b → Stands men s man → man.kind ≢ K → (s ≢ w) × (s ≢ b)
off_kings flips men w b s man kings stands beside = grind (arith, one_man, king_kind)

-- the men beside the kings are those of the list
record Others (flips : Bool) (men : Placement) (list : List Man) : Type 0 where
  placement : Placement
  counted : AreCounted placement (map (turned_man flips) list)
  here : (s : ℕ) (man : Man) → Stands placement s man → Stands men s man × (man.kind ≢ K)
  there : (s : ℕ) (man : Man) → Stands men s man → man.kind ≢ K → Stands placement s man

others_of : (c : ℕ) (flips : Bool) (p : Setup) (w b : ℕ) (list : List Man) → list ≡ men_beside (material_of c) → IsOf c flips p → KingsOn flips p.men w b → Others flips p.men list
others_of c flips p w b list are is_of kings = record {
  placement = placement.remove (placement.remove p.men w) b;
  counted = subst (λ l. AreCounted (placement.remove (placement.remove p.men w) b) (map (turned_man flips) l)) (sym are)
      (counted_rest (placement.remove p.men w) (turned_man flips (king_of Black)) (map (turned_man flips) (men_beside (material_of c))) b kings.black_in (get-remove_other p.men w b (λ e. kings.apart (sym e)) ∙ kings.black)
      (counted_rest p.men (turned_man flips (king_of White)) (turned_man flips (king_of Black) ∷ map (turned_man flips) (men_beside (material_of c))) w kings.white_in kings.white (counted_turned c flips p is_of)));
  here = λ s man stands. elim (cases_eq s b) [
    | inl same ↦ absurd (let none = sym (get-remove_same (placement.remove p.men w) b s same) ∙ stands in cc)
    | inr s_b ↦
        let before = sym (get-remove_other (placement.remove p.men w) b s s_b) ∙ stands in
        elim (cases_eq s w) [
          | inl same ↦ absurd (let none = sym (get-remove_same p.men w s same) ∙ before in cc)
          | inr s_w ↦
              let here = sym (get-remove_other p.men w s s_w) ∙ before in
              (here, λ king. elim (kings.only s man king here) [ inl e ↦ s_w e | inr e ↦ s_b e ])
        ]
  ];
  there = λ s man stands beside.
      let off = off_kings flips p.men w b s man kings stands beside in
      get-remove_other (placement.remove p.men w) b s off.1 ∙ get-remove_other p.men w s off.0 ∙ stands;
}

-- the first of them stands on some square
record Next (flips : Bool) (men : Placement) (man : Man) (one other : Entry) : Type 0 where
  square : ℕ
  on_board : square < 64
  stands : Stands men square (turned_man flips man)
  beside : (turned_man flips man).kind ≢ K
  is : (one ≡ Some (turned_man flips man, square)) ⊎ (other ≡ Some (turned_man flips man, square))

next_of : (flips : Bool) (men : Placement) (man : Man) (list : List Man) (one other : Entry) → Others flips men (man ∷ list) → HasBeside men one other → Next flips men man one other
next_of flips men man list one other h beside = grind (arith, first_is_there)

-- in colours that are the class's the first man of the name is among them
pub among_own : (c : ℕ) (p : Setup) (w b : ℕ) (first : Option Man) (rest : List Man) (one other : Entry) → option_to_list first ++ rest ≡ men_beside (material_of c) → IsOf c false p → KingsOn false p.men w b → HasBeside p.men one other
    → IsAmong first one other
among_own c p w b None rest one other are is_of kings beside = tt
among_own c p w b (Some man) rest one other are is_of kings beside =
    let next = next_of false p.men man rest one other (others_of c false p w b (man ∷ rest) are is_of kings) beside in
    elim next.is [ inl e ↦ inl (held one next.square e) | inr e ↦ inr (held other next.square e) ]
  where
    held : (entry : Entry) (s : ℕ) → entry ≡ Some (man, s) → Holds entry man
    held entry s e = subst (λ x. Holds x man) (sym e) refl

-- he is the one that is next in the name
record First (flips : Bool) (men : Placement) (man : Man) (next : Entry) : Type 0 where
  square : ℕ
  on_board : square < 64
  stands : Stands men square (turned_man flips man)
  beside : (turned_man flips man).kind ≢ K
  is : next ≡ Some (turned_man flips man, square)

first_of : (flips : Bool) (p : Setup) (man : Man) (list : List Man) (one other next last : Entry) → IsAdmissible p → Others flips p.men (man ∷ list) → HasBeside p.men one other → IsInNameOrder (Some man) flips one other next last → First flips p.men man next
first_of flips p man list one other next last ok h beside (inl order) = of_one one beside.one order.0 order.1
  where
    of_one : (one : Entry) → StandsBeside p.men one → Holds one (turned_man flips man) → next ≡ one → First flips p.men man next
    of_one None stands holds is = absurd holds
    of_one (Some e) stands holds is = record {
      square = e.1;
      on_board = ok.on_board e.1 e.0 stands.0;
      stands = stands.0 ∙ ap Some holds;
      beside = subst (λ m. m.kind ≢ K) holds stands.1;
      is = is ∙ ap (λ m. Some (m, e.1)) holds;
    }
first_of flips p man list one other next last ok h beside (inr order) =
    let found = next_of flips p.men man list one other h beside in
    elim found.is [
      | inl e ↦ absurd (order.0 (subst (λ x. Holds x (turned_man flips man)) (sym e) refl))
      | inr e ↦ record { square = found.square; on_board = found.on_board; stands = found.stands; beside = found.beside; is = order.1 ∙ e }
    ]

-- without him the rest are left
without_first : (flips : Bool) (men : Placement) (man : Man) (list : List Man) (s : ℕ) → s < 64 → Stands men s (turned_man flips man) → (turned_man flips man).kind ≢ K → Others flips men (man ∷ list)
    → (rest : Placement) × AreCounted rest (map (turned_man flips) list) × ((t : ℕ) (other : Man) → Stands rest t other → (t ≢ s) × Stands men t other × (other.kind ≢ K))
without_first flips men man list s s_in stands beside h = (
  placement.remove h.placement s,
  counted_rest h.placement (turned_man flips man) (map (turned_man flips) list) s s_in (h.there s (turned_man flips man) stands beside) h.counted,
  λ t other stands. elim (cases_eq t s) [
    | inl same ↦ absurd (let none = sym (get-remove_same h.placement s t same) ∙ stands in cc)
    | inr apart ↦ let here = h.here t other (sym (get-remove_other h.placement s t apart) ∙ stands) in (apart, here.0, here.1)
  ],
)

-- and the other man, if there is one, is the last of the name
last_of : (flips : Bool) (men : Placement) (first second : Man) (one other next last : Entry) (f : First flips men first next) → Others flips men (first ∷ second ∷ []) → HasBeside men one other → IsInNameOrder (Some first) flips one other next last
    → (t : ℕ) × (t < 64) × (t ≢ f.square) × Stands men t (turned_man flips second) × ((turned_man flips second).kind ≢ K) × (last ≡ Some (turned_man flips second, t))
last_of flips men first second one other next last f h beside order =
    let rest = without_first flips men first (second ∷ []) f.square f.on_board f.stands f.beside h in
    let found = first_is_there rest.0 (turned_man flips second) [] rest.1 in
    let here = rest.2 found.0 (turned_man flips second) found.2.stands in
    let either : (next ≡ Some (turned_man flips second, found.0)) ⊎ (last ≡ Some (turned_man flips second, found.0)) = ordered order (beside.all found.0 (turned_man flips second) here.1 here.2) in
    elim either [
      | inl e ↦ absurd (here.0 (sym (same_square (sym f.is ∙ e))))
      | inr e ↦ (found.0, found.1, here.0, here.1, here.2, e)
    ]
  where
    ordered : {x : Option (Man × ℕ)} → IsInNameOrder (Some first) flips one other next last → (one ≡ x) ⊎ (other ≡ x) → (next ≡ x) ⊎ (last ≡ x)
    ordered (inl order) (inl e) = inl (order.1 ∙ e)
    ordered (inl order) (inr e) = inr (order.2 ∙ e)
    ordered (inr order) (inl e) = inr (order.2 ∙ e)
    ordered (inr order) (inr e) = inl (order.1 ∙ e)

    square_in : Entry → ℕ
    square_in None = 0
    square_in (Some e) = e.1

    same_square : {m n : Man} {s t : ℕ} → ◌≡◌ {A = Entry} (Some (m, s)) (Some (n, t)) → s ≡ t
    same_square e = ap square_in e

-- the order by the test of the one
name_order : (first : Option Man) (flips : Bool) (one other : Entry) (b : Bool) → IsTrue b ↔ IsFirst first flips one → IsInNameOrder first flips one other (cond b one other) (cond b other one)
name_order first flips one other b test = grind arith

on_either : (b : Bool) (one other : Entry) (s t : ℕ) → IsOn one s → IsOn other t → IsOn (cond b one other) (cond b s t)
on_either b one other s t on on' = grind arith

on_square : (entry : Entry) (man : Man) (s t : ℕ) → IsOn entry t → entry ≡ Some (man, s) → t ≡ s
on_square entry man s t on is = sym (subst (λ e. IsOn e t) is on)

-- the man of the class on a square
abbrev placed : Option Man → ℕ → Entry
placed man s = option_map (λ m. (m, s)) man

-- so the men stand as the class's name has them
stood_on : (c : ℕ) (flips : Bool) (p : Setup) (w b : ℕ) (first second : Option Man) (one other next last : Entry) (s t : ℕ) → IsAdmissible p → IsOf c flips p → option_to_list first ++ option_to_list second ≡ men_beside (material_of c) → (first ≡ None → second ≡ None)
    → KingsOn flips p.men w b → HasBeside p.men one other → IsInNameOrder first flips one other next last → IsOn next s → IsOn last t
    → Stood c flips p.men ((king_of White, w) ∷ (king_of Black, b) ∷ (option_to_list (placed first s) ++ option_to_list (placed second t)))
stood_on c flips p w b None None one other next last s t ok is_of are from_first kings beside order on on' = record {
  are = ap (λ l. king_of White ∷ king_of Black ∷ l) are;
  all = (kings.white_in, kings.white, ((λ e. kings.apart (sym e)), tt), (kings.black_in, kings.black, tt, tt));
}
stood_on c flips p w b None (Some man) one other next last s t ok is_of are from_first kings beside order on on' = absurd (let none = from_first refl in cc)
stood_on c flips p w b (Some first) None one other next last s t ok is_of are from_first kings beside order on on' =
    let f = first_of flips p first [] one other next last ok (others_of c flips p w b (first ∷ []) are is_of kings) beside order in
    let off = off_kings flips p.men w b f.square (turned_man flips first) kings f.stands f.beside in
    subst (λ x. Stood c flips p.men ((king_of White, w) ∷ (king_of Black, b) ∷ (first, x) ∷ [])) (sym (on_square next (turned_man flips first) f.square s on f.is)) (record {
      are = ap (λ l. king_of White ∷ king_of Black ∷ l) are;
      all = (kings.white_in, kings.white, ((λ e. kings.apart (sym e)), (off.0, tt)), (kings.black_in, kings.black, (off.1, tt), (f.on_board, f.stands, tt, tt)));
    })
stood_on c flips p w b (Some first) (Some second) one other next last s t ok is_of are from_first kings beside order on on' =
    let all = others_of c flips p w b (first ∷ second ∷ []) are is_of kings in
    let f = first_of flips p first (second ∷ []) one other next last ok all beside order in
    let (u, u_in, apart, stands, none, is) = last_of flips p.men first second one other next last f all beside order in
    let off = off_kings flips p.men w b f.square (turned_man flips first) kings f.stands f.beside in
    let away = off_kings flips p.men w b u (turned_man flips second) kings stands none in
    subst (λ y. Stood c flips p.men ((king_of White, w) ∷ (king_of Black, b) ∷ (first, s) ∷ (second, y) ∷ [])) (sym (on_square last (turned_man flips second) u t on' is))
    (subst (λ x. Stood c flips p.men ((king_of White, w) ∷ (king_of Black, b) ∷ (first, x) ∷ (second, u) ∷ [])) (sym (on_square next (turned_man flips first) f.square s on f.is)) (record {
      are = ap (λ l. king_of White ∷ king_of Black ∷ l) are;
      all = (
        kings.white_in,
        kings.white,
        ((λ e. kings.apart (sym e)), (off.0, (away.0, tt))),
        (kings.black_in, kings.black, (off.1, (away.1, tt)), (f.on_board, f.stands, (apart, tt), (u_in, stands, tt, tt))),
      );
    }))

pub stood_by : (c : ℕ) (flips : Bool) (p : Setup) (w b : ℕ) (first second : Option Man) (one other : Entry) (in_order : Bool) (s t : ℕ) → IsAdmissible p → IsOf c flips p → option_to_list first ++ option_to_list second ≡ men_beside (material_of c) → (first ≡ None → second ≡ None)
    → KingsOn flips p.men w b → HasBeside p.men one other → IsTrue in_order ↔ IsFirst first flips one → IsOn one s → IsOn other t
    → Stood c flips p.men ((king_of White, w) ∷ (king_of Black, b) ∷ (option_to_list (placed first (cond in_order s t)) ++ option_to_list (placed second (cond in_order t s))))
stood_by c flips p w b first second one other in_order s t ok is_of are from_first kings beside test on on' =
    stood_on c flips p w b first second one other (cond in_order one other) (cond in_order other one) (cond in_order s t) (cond in_order t s) ok is_of are from_first kings beside (name_order first flips one other in_order test)
    (on_either in_order one other s t on on') (on_either in_order other one t s on' on)
