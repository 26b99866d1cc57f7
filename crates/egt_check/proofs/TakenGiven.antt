-- The greatest scores of the codes after captures are those of the captures.
use Rattle.std.proofs.Common.{◌≡◌, ℕ, ◌<◌, ◌⊎◌, ◌↔◌, if◌then◌else◌, max, Bool, true, false, refl, sym, ap, ◌∙◌, inl}
use Rattle.std.proofs.Common.{inr, subst}
use Rattle.egt_check.specs.Prelude.{Reaches-on_board, IsAdmissible, Man, IsSomeTurnedCode, zeroing_score, IsPlainCapture}
use Rattle.egt_check.specs.Prelude.{other_side, Side, leads_to_one, IsBesideKing, AreLeftCodes, IsLastTaken, men_swapped}
use Rattle.egt_check.specs.Prelude.{Setup, HasStand, list_of, ShelfMen, IsRaised, stand_on, AreGiven, IsTaken, score_at}
use Rattle.egt_check.specs.Prelude.{White, Black, Stand, Leads, Move, Mate, Facts, Left, left_of}
use Rattle.egt_check.specs.Prelude.{AllStand, raised_as, TableValue, with_king, IsTableOf, IsClassOf, stand_left, Tables}
use Rattle.egt_check.proofs.ByteJudged.{zeroing_max}
use Rattle.egt_check.proofs.EitherGiven.{union_given}
use Rattle.egt_check.proofs.PartGiven.{Parts, part_given}
use Rattle.egt_check.proofs.GreatestScores.{AreWhole, Turning}

-- one position after each capture that leaves a man, and one capture before it
pub record Takes (c : ℕ) (men : ShelfMen) (side : Side) (a b : ℕ) (p : Setup) : Type 0 where
  pub goes : (q : Setup) (m : Move) → Leads p m q → IsPlainCapture p m → (left : Left) × IsTaken men side a b left × ((d : ℕ) (flips : Bool) → IsClassOf d flips left.man → HasStand d flips (stand_left flips left) (other_side side) false q)
  pub comes : (left : Left) → IsTaken men side a b left → (d : ℕ) (flips : Bool) → IsClassOf d flips left.man → (q : Setup) → HasStand d flips (stand_left flips left) (other_side side) false q → (m : Move) × Leads p m q × IsPlainCapture p m

-- ---- the captures that leave one man

module _ (facts : Facts) (turning : Turning) (tables : Tables) (p : Setup) (ok : IsAdmissible p) (men : ShelfMen) (white_in : men.white < 64) (black_in : men.black < 64) (side : Side) (a b : ℕ) (one_in : a < 64) (t : TableValue) (flips : Bool)
    (is : IsTableOf tables t flips men.first) where
  -- the men of some capture of the last man
  abbrev pub After : Stand → Type 0
  After stand = (left : Left) × IsLastTaken men side a b left × (stand ≡ stand_left flips left)

  on_board : (white black s : ℕ) → white < 64 → black < 64 → s < 64 → AreWhole (stand_left flips (record { white = white; black = black; man = men.first; square = s }))
  on_board white black s w k o = record {
    filled = λ none. let e = none in cc;
    on_board = record { white = either flips black white k w; black = either flips white black w k; first = o; last = tt };
  }
    where
      either : (f : Bool) (x y : ℕ) → x < 64 → y < 64 → (if f then x else y) < 64
      either true x y left right = left
      either false x y left right = right

  whole : (stand : Stand) → After stand → AreWhole stand
  whole stand (left, inl (of, beside, is), e) = subst AreWhole (sym (e ∙ ap (stand_left flips) is)) (of_side side)
    where
      of_side : (s : Side) → AreWhole (stand_left flips (left_of (with_king men s b) men.first a))
      of_side White = on_board b men.black a beside.0 black_in one_in
      of_side Black = on_board men.white b a white_in beside.0 one_in
  whole stand (left, inr (of, other, reaches, is), e) = subst AreWhole (sym (e ∙ ap (stand_left flips) is)) (on_board men.white men.black b white_in black_in (Reaches-on_board _ men.first a b reaches))

  abbrev pub HasLeft : Left → Setup → Type 0
  HasLeft left q = HasStand t.class flips (stand_left flips left) (other_side side) false q

  -- the move takes the last man
  abbrev pub Takers : Move → Type 0
  Takers m = IsPlainCapture p m × ((q : Setup) → Leads p m q → (left : Left) × IsLastTaken men side a b left × HasLeft left q)

  takers : (m : Move) (q : Setup) (left : Left) → Leads p m q → IsPlainCapture p m → IsLastTaken men side a b left → HasLeft left q → Takers m
  takers m q left leads plain taken there = (plain, λ r other. (left, taken, subst (HasLeft left) (leads_to_one p q r m leads other) there))

  module _ (comes : (left : Left) → IsLastTaken men side a b left → (q : Setup) → HasLeft left q → (m : Move) × Leads p m q × IsPlainCapture p m) where
    parts : Parts p side t.class flips After Takers
    parts = record {
      zeroes = λ q m leads among. inl among.0.0;
      whole = whole;
      goes = λ q m leads among.
          let (left, taken, there) = among.1 q leads in
          (stand_left flips left, (left, taken, refl), q, inl (there.settled, refl), there);
      comes = λ stand r (left, taken, e) has_stand.
          let there : HasLeft left r = subst (λ (s : Stand). HasStand t.class flips s (other_side side) false r) e has_stand in
          let (m, leads, plain) = comes left taken r there in
          (m, r, leads, inl (there.settled, refl), takers m r left leads plain taken there);
    }

    takers_given : (w : ℕ) → IsRaised 0 (AreLeftCodes t.class flips men side a b) (score_at t Mate) w → AreGiven tables p Takers w (zeroing_score w)
    takers_given w raised =
        part_given facts turning tables t is.is_table is.found is.bytes p ok side flips After Takers parts w
        (raised_as 0 w (AreLeftCodes t.class flips men side a b) (λ code. (stand : Stand) × After stand × IsSomeTurnedCode t.class code flips stand (other_side side)) (score_at t Mate)
        (λ code in_codes. (stand_left flips in_codes.0, (in_codes.0, in_codes.1, refl), in_codes.2))
        (λ code in_stands. (in_stands.1.0, in_stands.1.1, subst (λ (s : Stand). IsSomeTurnedCode t.class code flips s (other_side side)) in_stands.1.2 in_stands.2)) raised)

-- ---- the king of the swapped men is the same

king_as : (men : ShelfMen) (side : Side) (k : ℕ) → IsBesideKing (men_swapped men) side k ↔ IsBesideKing men side k
king_as men White k = ((λ h. h), (λ h. h))
king_as men Black k = ((λ h. h), (λ h. h))

left_same : (men : ShelfMen) (side : Side) (k : ℕ) (man : Man) (s : ℕ) → left_of (with_king (men_swapped men) side k) man s ≡ left_of (with_king men side k) man s
left_same men White k man s = refl
left_same men Black k man s = refl

-- ---- both classes

module _ (facts : Facts) (turning : Turning) (tables : Tables) (c : ℕ) (men : ShelfMen) (side : Side) (targeted : Bool) (a b : ℕ) (p : Setup) (has : HasStand c false (stand_on men a b) side targeted p) (takes : Takes c men side a b p)
    (first : TableValue) (first_flips : Bool) (is_first : IsTableOf tables first first_flips men.first) (last : TableValue) (last_flips : Bool) (is_last : IsTableOf tables last last_flips men.last) where
  pub apart : AllStand false p.men (list_of (stand_on men a b))
  apart = has.stood.all

  -- a capture of the last man, and of the first
  taken_last : (left : Left) → IsLastTaken men side a b left → IsTaken men side a b left × (left.man ≡ men.first)
  taken_last left (inl h) = (inr (inl h), ap (λ (l : Left). l.man) h.2)
  taken_last left (inr h) = (inr (inr (inl h)), ap (λ (l : Left). l.man) h.3)

  taken_first : (left : Left) → IsLastTaken (men_swapped men) side b a left → IsTaken men side a b left × (left.man ≡ men.last)
  taken_first left (inl h) = (inl (h.0, (king_as men side a).0 h.1, h.2 ∙ left_same men side a men.last b), ap (λ (l : Left). l.man) h.2)
  taken_first left (inr h) = (inr (inr (inr (h.0, h.1, h.2, h.3))), ap (λ (l : Left). l.man) h.3)

  either : (left : Left) → IsTaken men side a b left → (IsLastTaken men side a b left × (left.man ≡ men.first)) ⊎ (IsLastTaken (men_swapped men) side b a left × (left.man ≡ men.last))
  either left (inl h) = inr (inl (h.0, (king_as men side a).1 h.1, h.2 ∙ sym (left_same men side a men.last b)), ap (λ (l : Left). l.man) h.2)
  either left (inr (inl h)) = inl (inl h, ap (λ (l : Left). l.man) h.2)
  either left (inr (inr (inl h))) = inl (inr h, ap (λ (l : Left). l.man) h.3)
  either left (inr (inr (inr h))) = inr (inr (h.0, h.1, h.2, h.3), ap (λ (l : Left). l.man) h.3)

  abbrev pub TakeLast : Move → Type 0
  TakeLast = Takers facts turning tables p has.admissible men apart.0 apart.3.0 side a b apart.3.3.0 first first_flips is_first

  abbrev pub TakeFirst : Move → Type 0
  TakeFirst = Takers facts turning tables p has.admissible (men_swapped men) apart.0 apart.3.0 side b a apart.3.3.3.0 last last_flips is_last

  which : (q : Setup) (m : Move) → Leads p m q → IsPlainCapture p m → TakeLast m ⊎ TakeFirst m
  which q m leads plain =
      let (left, taken, there) = takes.goes q m leads plain in
      elim (either left taken) [
        | inl h ↦ inl (takers facts turning tables p has.admissible men apart.0 apart.3.0 side a b apart.3.3.0 first first_flips is_first m q left leads plain h.0 (there first.class first_flips (subst (IsClassOf first.class first_flips) (sym h.1) is_first.class_of)))
        | inr h ↦ inr (takers facts turning tables p has.admissible (men_swapped men) apart.0 apart.3.0 side b a apart.3.3.3.0 last last_flips is_last m q left leads plain h.0 (there last.class last_flips (subst (IsClassOf last.class last_flips) (sym h.1) is_last.class_of)))
      ]

  pub taken_given : (u v : ℕ) → IsRaised 0 (AreLeftCodes first.class first_flips men side a b) (score_at first Mate) u → IsRaised 0 (AreLeftCodes last.class last_flips (men_swapped men) side b a) (score_at last Mate) v
      → AreGiven tables p (IsPlainCapture p) (max u v) (zeroing_score (max u v))
  taken_given u v by_first by_last =
      subst (AreGiven tables p (IsPlainCapture p) (max u v)) (zeroing_max u v)
      (union_given tables p (IsPlainCapture p) TakeLast TakeFirst u (zeroing_score u) v (zeroing_score v)
      (takers_given facts turning tables p has.admissible men apart.0 apart.3.0 side a b apart.3.3.0 first first_flips is_first
      (λ left taken. let (is, same) = taken_last left taken in takes.comes left is first.class first_flips (subst (IsClassOf first.class first_flips) (sym same) is_first.class_of)) u by_first)
      (takers_given facts turning tables p has.admissible (men_swapped men) apart.0 apart.3.0 side b a apart.3.3.3.0 last last_flips is_last
      (λ left taken. let (is, same) = taken_first left taken in takes.comes left is last.class last_flips (subst (IsClassOf last.class last_flips) (sym same) is_last.class_of)) v by_last)
      which (λ m among. among.0) (λ m among. among.0))
