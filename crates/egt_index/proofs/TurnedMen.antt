-- The codes that tell the men of a position where turns take them.
use Rattle.std.proofs.Common.{◌≡◌, ℕ, ◌/◌, ◌%◌, ◌<◌, ◌⊎◌, ◌&&◌, not, Bool, true, false, cond, ltb, eqb, IsTrue, List}
use Rattle.std.proofs.Common.{[], ◌∷◌, ◌++◌, map, Option, Some, None, IfSome, arith, refl, sym, ap, ◌∙◌, inl, inr}
use Rattle.std.proofs.Common.{subst, slice_index}
use Rattle.egt_index.specs.Prelude.{is_some, option_map, option_to_list, and_parts, eqb-true, ltb-true, false≢true}
use Rattle.egt_index.specs.Prelude.{king_of, AreImages, side_number, men_of, MayStand, Placement, Stands, IsSettled}
use Rattle.egt_index.specs.Prelude.{Setup, KeepsPlay, IsSetBy, IsTurnedBy, turned_man, turned_side, turned_square, Man}
use Rattle.egt_index.specs.Prelude.{Side, White, Black, all_below, passes_below, has_equal_sides, material_of, IsOf}
use Rattle.egt_index.specs.Prelude.{Spells, men_at, placed, target_digit, AreDigits, number_from, number_of, Facts}
use Rattle.egt_index.specs.Prelude.{symmetries, IsIndex, AreCounted, base_of, has_pawns, has_target, men_bases}
use Rattle.egt_index.specs.Prelude.{men_in_order, Ends, IsListed, SpellsMen, TellsMen, AllApart, AllStand, Entry}
use Rattle.egt_index.specs.Prelude.{HasStand, IsFilled, IsOff, Stood, entry_after, list_of, men_among, on_square_of}
use Rattle.egt_index.specs.Prelude.{IsInEitherOrder, IsSeenBy, IsSomeTurnedCodeWith, IsTurnedCodeWith, seen_across}
use Rattle.egt_index.specs.Prelude.{swapped, turned_by, turned_with, IsTurn, AreOnBoard, Stand}
use Rattle.std.specs.FinMap as placement
use Rattle.egt_index.proofs.After.{all_there, both_to_list, inverse, ordered, ordered_men, stood_by, turn_one, turned_men}
use Rattle.egt_index.proofs.Beating.{has_exchanged}
use Rattle.egt_index.proofs.Best.{turn_number}
use Rattle.egt_index.proofs.Classes.{spells_class}
use Rattle.egt_index.proofs.Decoded.{code_of_parts}
use Rattle.egt_index.proofs.Exchanged.{filled_exchanged, one_order}
use Rattle.egt_index.proofs.LeastTurn.{keeps_play, kept}
use Rattle.egt_index.proofs.Led.{eight}
use Rattle.egt_index.proofs.Listing.{listed, listed_stands}
use Rattle.egt_index.proofs.OnePosition.{spells_once}
use Rattle.egt_index.proofs.Picking.{same_digit}
use Rattle.egt_index.proofs.Setups.{all_apart, apart_all, are_no_kings, men_spelled, no_king_listed, no_kings_beside, placed_may}
use Rattle.egt_index.proofs.ToldMen.{stands_told, told_stands, untargeted_stands}
use Rattle.egt_index.proofs.ImageCodes.{counted_of, differ, turned_class}
use Rattle.egt_board.proofs.Parts.{heads, tails}

-- ---- the turn that undoes another in the same colours

unfoldable pub undoing : Bool → ℕ → ℕ
undoing false n = inverse n
undoing true n = slice_index (0 ∷ 1 ∷ 2 ∷ 3 ∷ 7 ∷ 5 ∷ 6 ∷ 4 ∷ []) n

is_undone : Bool → ℕ → ℕ → Bool
is_undone flips n s = ltb (turned_square n flips s) 64 && eqb (turned_square (undoing flips n) flips (turned_square n flips s)) s

all_are_undone : (flips : Bool) → all_below (λ n. all_below (is_undone flips n) 64) 8 ≡ true
unfolding all_below is_undone undoing inverse
all_are_undone true = refl
all_are_undone false = refl

pub undone : (flips : Bool) (n s : ℕ) → n < 8 → s < 64 → (turned_square n flips s < 64) × (turned_square (undoing flips n) flips (turned_square n flips s) ≡ s)
unfolding is_undone
undone flips n s n_in s_in =
    let both = and_parts _ _ (passes_below (is_undone flips n) 64 s (passes_below (λ n. all_below (is_undone flips n) 64) 8 n (all_are_undone flips) n_in) s_in) in
    (ltb-true _ _ both.0, eqb-true _ _ both.1)

all_undoing : (pawns flips : Bool) → all_below (λ n. ltb (undoing flips n) (symmetries pawns)) (symmetries pawns) ≡ true
unfolding all_below undoing inverse
all_undoing pawns flips = grind arith

pub undoing_in : (pawns flips : Bool) (n : ℕ) → n < symmetries pawns → undoing flips n < symmetries pawns
undoing_in pawns flips n n_in = ltb-true _ _ (passes_below (λ n. ltb (undoing flips n) (symmetries pawns)) (symmetries pawns) n (all_undoing pawns flips) n_in)

-- ---- what such a code spells is an image of a position with the men

-- all squares of the list are on the board
AllOnBoard : List (Man × ℕ) → Type 0
AllOnBoard [] = Unit {0}
AllOnBoard (e ∷ list) = (e.1 < 64) × AllOnBoard list

entries_on_board : (x y : Entry) → IfSome x (λ e. e.1 < 64) → IfSome y (λ e. e.1 < 64) → AllOnBoard (option_to_list x ++ option_to_list y)
unfolding AllOnBoard
entries_on_board x y x_in y_in = grind arith

list_on_board : (stand : Stand) → AreOnBoard stand → AllOnBoard (list_of stand)
unfolding AllOnBoard
list_on_board stand board = (board.white, (board.black, entries_on_board stand.first stand.last board.first board.last))

off_before : (n : ℕ) (flips : Bool) (list : List (Man × ℕ)) (q : ℕ) → IsOff (map (turn_one n flips) list) (turned_square n flips q) → IsOff list q
off_before n flips [] q off = tt
off_before n flips (e ∷ list) q off = ((λ same. off.0 (ap (turned_square n flips) same)), off_before n flips list q off.1)

all_before : (n : ℕ) (flips : Bool) (r q : Setup) (list : List (Man × ℕ)) → n < 8 → IsSetBy (undoing flips n) flips r q → AllOnBoard list → AllStand false r.men (map (turn_one n flips) list) → AllStand flips q.men list
unfolding AllOnBoard
all_before n flips r q [] n_in set board all = tt
all_before n flips r q (e ∷ list) n_in set board all =
    let back = undone flips n e.1 n_in board.0 in (
      board.0,
      ap (placement.get q.men) (sym back.1) ∙ set.men (turned_square n flips e.1) back.0 ∙ ap (option_map (turned_man flips)) all.1,
      off_before n flips list e.1 all.2,
      all_before n flips r q list n_in set board.1 all.3,
    )

list_turned : (n : ℕ) (flips : Bool) (stand : Stand) → map (turn_one n flips) (list_of stand) ≡ list_of (turned_with n flips stand)
list_turned n flips stand = ap (λ l. (king_of White, turned_square n flips stand.white) ∷ (king_of Black, turned_square n flips stand.black) ∷ l) (both_to_list n flips stand.first stand.last)

differ_from : (flips : Bool) → differ false flips ≡ flips
differ_from flips = grind arith

turned_twice : (flips : Bool) (side : Side) → turned_side flips (turned_side flips side) ≡ side
turned_twice flips side = grind arith

some_mapped : (f : ℕ → ℕ) (o : Option ℕ) → is_some (option_map f o) ≡ is_some o
some_mapped f o = grind arith

-- the digit of a target that a turn takes elsewhere
digit_mapped : (f : ℕ → ℕ) (o : Option ℕ) → target_digit (option_map f o) ≡ cond (is_some o) 1 0
digit_mapped f o = grind arith

-- what a code spells is settled where no target was passed
settled_told : (targeted : Bool) (c code : ℕ) (r : Setup) (stand : Stand) (side : Side) → Spells c code r → TellsMen targeted c code stand side → (targeted ≡ true → IsSettled r) → IsSettled r
settled_told true c code r stand side spells tells settled = settled refl
settled_told false c code r stand side spells tells settled = (untargeted_stands c code r stand side spells tells).settled

module _ (facts : Facts) (targeted : Bool) (c n code : ℕ) (flips : Bool) (stand : Stand) (side : Side) (r : Setup) (c_in : c < 36) (n_in : n < symmetries (has_pawns (material_of c))) (board : AreOnBoard stand)
    (tells : TellsMen targeted c code (turned_with n flips stand) (turned_side flips side)) (spells : Spells c code r) (settled : targeted ≡ true → IsSettled r) where
  few : n < 8
  few = eight (has_pawns (material_of c)) n n_in

  back : ℕ
  back = undoing flips n

  back_in : back < symmetries (has_pawns (material_of c))
  unfolding back
  back_in = undoing_in (has_pawns (material_of c)) flips n n_in

  there : HasStand c false (turned_with n flips stand) (turned_side flips side) targeted r
  there = told_stands targeted c code r (turned_with n flips stand) (turned_side flips side) spells (settled_told targeted c code r (turned_with n flips stand) (turned_side flips side) spells tells settled) tells

  made : (q : Setup) × IsTurnedBy back flips r q
  made = facts.made back flips r there.admissible

  keeps : KeepsPlay back r.men
  keeps = keeps_play c false r back there.admissible there.is_of back_in

  images : AreImages r made.0
  images = facts.images r made.0 back flips there.admissible (eight (has_pawns (material_of c)) back back_in) keeps made.1

  set : IsSetBy back flips r made.0
  set = facts.set back flips r made.0 there.admissible made.1

  stood : Stood c flips made.0.men (list_of stand)
  unfolding back
  stood = record {
    are = sym (turned_men n flips (list_of stand)) ∙ ap men_among (list_turned n flips stand) ∙ there.stood.are;
    all = all_before n flips r made.0 (list_of stand) few set (list_on_board stand board) (subst (AllStand false r.men) (sym (list_turned n flips stand)) there.stood.all);
  }

  has : HasStand c flips stand side targeted made.0
  has = record {
    admissible = facts.admissible r made.0 there.admissible images;
    settled = (facts.settled r made.0 there.admissible images).0 there.settled;
    is_of = subst (λ f. IsOf c f made.0) (differ_from flips) (turned_class facts c false flips back r made.0 there.admissible (eight (has_pawns (material_of c)) back back_in) keeps made.1 there.is_of);
    stood = stood;
    side_is = set.side ∙ ap (turned_side flips) there.side_is ∙ turned_twice flips side;
    target_is = ap is_some set.target ∙ some_mapped (turned_square back flips) r.target ∙ there.target_is;
  }

  pub image_told : (q : Setup) × HasStand c flips stand side targeted q × AreImages q r
  image_told = (made.0, has, facts.back r made.0 there.admissible images)

-- ---- the index of a position is such a code

-- entries are equal where both parts are
same_entry : (e d : Man × ℕ) → e.0 ≡ d.0 → e.1 ≡ d.1 → e ≡ d
same_entry e d man square = λ i. (man i, square i)

-- what is listed in the one list is listed in the other
AreListedIn : (one other : List (Man × ℕ)) → Type 0
AreListedIn one other = (man : Man) (s : ℕ) → IsListed one man s → IsListed other man s

-- two entries and a list of the same men on the same squares
either_order : (x y : Entry) (other : List (Man × ℕ)) → (x ≡ None → y ≡ None) → men_among (option_to_list x ++ option_to_list y) ≡ men_among other → AllApart (option_to_list x ++ option_to_list y) → AreListedIn (option_to_list x ++ option_to_list y) other
    → (option_to_list x ++ option_to_list y ≡ other) ⊎ ((option_to_list y ++ option_to_list x ≡ other) × (men_among (option_to_list x) ≡ men_among (option_to_list y)))
unfolding AreListedIn
either_order None None [] filled men apart there = inl refl
either_order None None (d ∷ other) filled men apart there = absurd cc
either_order None (Some y) other filled men apart there = absurd (let none = filled refl in cc)
either_order (Some x) None [] filled men apart there = absurd cc
either_order (Some x) None (d ∷ e ∷ other) filled men apart there = absurd (let rest = tails men in cc)
either_order (Some x) None (d ∷ []) filled men apart there = elim (there x.0 x.1 (inl (refl, refl))) [
  | inl at ↦ inl (ap (λ e. e ∷ []) (same_entry x d (sym at.0) (sym at.1)))
  | inr none ↦ absurd none
]
either_order (Some x) (Some y) [] filled men apart there = absurd cc
either_order (Some x) (Some y) (d ∷ []) filled men apart there = absurd (let rest = tails men in cc)
either_order (Some x) (Some y) (d ∷ e ∷ f ∷ other) filled men apart there = absurd (let rest = tails (tails men) in cc)
either_order (Some x) (Some y) (d ∷ e ∷ []) filled men apart there = of (there x.0 x.1 (inl (refl, refl))) (there y.0 y.1 (inr (inl (refl, refl))))
  where
    of : ((d.0 ≡ x.0) × (d.1 ≡ x.1)) ⊎ (((e.0 ≡ x.0) × (e.1 ≡ x.1)) ⊎ ⊥) → ((d.0 ≡ y.0) × (d.1 ≡ y.1)) ⊎ (((e.0 ≡ y.0) × (e.1 ≡ y.1)) ⊎ ⊥)
        → (x ∷ y ∷ [] ≡ d ∷ e ∷ []) ⊎ ((y ∷ x ∷ [] ≡ d ∷ e ∷ []) × (x.0 ∷ [] ≡ y.0 ∷ []))
    of (inl a) (inl b) = absurd (apart.0.0 (sym b.1 ∙ a.1))
    of (inl a) (inr (inl b)) = inl (ap (λ l. l ∷ y ∷ []) (same_entry x d (sym a.0) (sym a.1)) ∙ ap (λ l. d ∷ l ∷ []) (same_entry y e (sym b.0) (sym b.1)))
    of (inl a) (inr (inr none)) = absurd none
    of (inr (inl a)) (inl b) = inr (
      ap (λ l. l ∷ x ∷ []) (same_entry y d (sym b.0) (sym b.1)) ∙ ap (λ l. d ∷ l ∷ []) (same_entry x e (sym a.0) (sym a.1)),
      ap (λ l. l ∷ []) (heads men ∙ b.0),
    )
    of h other = grind arith

-- the men with the kings before them
with_kings : (w b : ℕ) (rest : List (Man × ℕ)) → List (Man × ℕ)
with_kings w b rest = (king_of White, w) ∷ (king_of Black, b) ∷ rest

not_white : king_of Black ≡ king_of White → ⊥
not_white e = let sides = ap (λ (man : Man). man.side) e in cc

kings_alone : (rest : List (Man × ℕ)) → are_no_kings (men_among rest) ≡ true → (side : Side) (s : ℕ) → IsListed rest (king_of side) s → ⊥
kings_alone rest none side s h = no_king_listed rest side s none h

-- a class's men and another list of them on the same squares
in_either_order : (w b : ℕ) (x y : Entry) (other : List (Man × ℕ)) → (x ≡ None → y ≡ None) → are_no_kings (men_among (option_to_list x ++ option_to_list y)) ≡ true
    → men_among (with_kings w b (option_to_list x ++ option_to_list y)) ≡ men_among other → AllApart (with_kings w b (option_to_list x ++ option_to_list y)) → AreListedIn (with_kings w b (option_to_list x ++ option_to_list y)) other
    → (with_kings w b (option_to_list x ++ option_to_list y) ≡ other) ⊎ ((with_kings w b (option_to_list y ++ option_to_list x) ≡ other) × (men_among (option_to_list x) ≡ men_among (option_to_list y)))
unfolding with_kings AreListedIn
in_either_order w b x y [] filled none men apart there = absurd cc
in_either_order w b x y (d ∷ []) filled none men apart there = absurd (let rest = tails men in cc)
in_either_order w b x y (d ∷ e ∷ other) filled none men apart there = elim (either_order x y other filled (tails (tails men)) apart.1.1 beside) [
  | inl same ↦ inl (ap (λ l. (king_of White, w) ∷ (king_of Black, b) ∷ l) same ∙ kings)
  | inr same ↦ inr (ap (λ l. (king_of White, w) ∷ (king_of Black, b) ∷ l) same.0 ∙ kings, same.1)
]
  where
    white_man : king_of White ≡ d.0
    white_man = heads men

    black_man : king_of Black ≡ e.0
    black_man = heads (tails men)

    none_there : are_no_kings (men_among other) ≡ true
    none_there = ap are_no_kings (sym (tails (tails men))) ∙ none

    white_on : d.1 ≡ w
    white_on = elim (there (king_of White) w (inl (refl, refl))) [
      | inl at ↦ at.1
      | inr (inl at) ↦ absurd (not_white (black_man ∙ at.0))
      | inr (inr h) ↦ absurd (kings_alone other none_there White w h)
    ]

    black_on : e.1 ≡ b
    black_on = elim (there (king_of Black) b (inr (inl (refl, refl)))) [
      | inl at ↦ absurd (not_white (sym at.0 ∙ sym white_man))
      | inr (inl at) ↦ at.1
      | inr (inr h) ↦ absurd (kings_alone other none_there Black b h)
    ]

    kings : (king_of White, w) ∷ (king_of Black, b) ∷ other ≡ d ∷ e ∷ other
    kings = ap (λ l. l ∷ (king_of Black, b) ∷ other) (same_entry (king_of White, w) d white_man (sym white_on)) ∙ ap (λ l. d ∷ l ∷ other) (same_entry (king_of Black, b) e black_man (sym black_on))

    beside : (man : Man) (s : ℕ) → IsListed (option_to_list x ++ option_to_list y) man s → IsListed other man s
    beside man s h = elim (there man s (inr (inr h))) [
      | inl at ↦ absurd (kings_alone (option_to_list x ++ option_to_list y) none White s (subst (λ m. IsListed (option_to_list x ++ option_to_list y) m s) (sym at.0 ∙ sym white_man) h))
      | inr (inl at) ↦ absurd (kings_alone (option_to_list x ++ option_to_list y) none Black s (subst (λ m. IsListed (option_to_list x ++ option_to_list y) m s) (sym at.0 ∙ sym black_man) h))
      | inr (inr h) ↦ h
    ]

after_none : (n : ℕ) (flips : Bool) (x : Entry) → entry_after n flips x ≡ None → x ≡ None
after_none n flips x is = grind arith

filled_after : (n : ℕ) (flips : Bool) (stand : Stand) → IsFilled stand → IsFilled (turned_with n flips stand)
filled_after n flips stand filled = λ none. ap (entry_after n flips) (filled (after_none n flips stand.first none))

-- two equal men are there, or none
equal_filled : (x y : Entry) → men_among (option_to_list x) ≡ men_among (option_to_list y) → y ≡ None → x ≡ None
equal_filled x y men none = grind arith

men_stay : (n : ℕ) (flips : Bool) (x : Entry) → men_among (option_to_list (entry_after n flips x)) ≡ men_among (option_to_list x)
men_stay n flips x = grind arith

module _ (facts : Facts) (targeted : Bool) (c n i : ℕ) (flips : Bool) (stand : Stand) (side : Side) (q r : Setup) (c_in : c < 36) (filled : IsFilled stand) (has : HasStand c flips stand side targeted q) (n_in : n < 8)
    (turned : IsTurnedBy n flips q r) (spells : Spells c i r) where
  lane : Stand
  lane = turned_with n flips stand

  placed_by : IsSetBy n flips q r
  placed_by = facts.set n flips q r has.admissible turned

  lane_stood : Stood c false r.men (list_of lane)
  unfolding lane
  lane_stood = stood_by c n flips q r stand n_in placed_by has.stood

  counted : AreCounted r.men (men_among (list_of lane))
  counted = subst (AreCounted r.men) (sym lane_stood.are) (counted_of c r (spells_class c i r spells))

  all : (r.men ≡ men_of (list_of lane)) × AllApart (list_of lane)
  all = let both = all_there r.men (list_of lane) spells.admissible.on_board counted lane_stood.all in (both.0, all_apart (list_of lane) both.1)

  same_men : men_of (list_of lane) ≡ men_of (men_at (material_of c) spells.digits)
  same_men = sym all.0 ∙ spells.men

  spelled : (list : List (Man × ℕ)) → list ≡ men_at (material_of c) spells.digits → SpellsMen (material_of c) (number_of (men_bases (material_of c)) spells.digits) list
  spelled list is = record { digits = spells.digits; are = spells.are_digits; list_is = is; number_is = refl }

  target_kept : is_some r.target ≡ targeted
  target_kept = ap is_some placed_by.target ∙ some_mapped (turned_square n flips) q.target ∙ has.target_is

  -- a class without targets has none
  never : has_target (material_of c) ≡ false → targeted ≡ false
  never none = elim spells.target [
    | inl some ↦ absurd (false≢true (sym none ∙ some))
    | inr none ↦ sym target_kept ∙ ap is_some none
  ]

  ends : Ends (material_of c) i (number_of (men_bases (material_of c)) spells.digits) (turned_side flips side) targeted
  ends = record {
    number_is = spells.number ∙ code_of_parts (material_of c) spells.digits r.side (target_digit r.target) spells.are_digits
        ∙ ap (λ (s : Side). number_from (number_of (men_bases (material_of c)) spells.digits) (2 ∷ cond (has_target (material_of c)) (2 ∷ []) []) (side_number s ∷ cond (has_target (material_of c)) (target_digit r.target ∷ []) [])) (placed_by.side ∙ ap (turned_side flips) has.side_is)
        ∙ ap (λ d. number_from (number_of (men_bases (material_of c)) spells.digits) (2 ∷ cond (has_target (material_of c)) (2 ∷ []) []) (side_number (turned_side flips side) ∷ cond (has_target (material_of c)) (d ∷ []) []))
        (ap target_digit placed_by.target ∙ digit_mapped (turned_square n flips) q.target ∙ ap (λ b. cond b 1 0) has.target_is);
    never = never;
  }

  -- the code tells the men in the one order or the other
  pub order_told : (after : Stand) × IsInEitherOrder stand after × TellsMen targeted c i (turned_with n flips after) (turned_side flips side)
  unfolding lane with_kings AreListedIn
  order_told = elim (in_either_order lane.white lane.black lane.first lane.last (men_at (material_of c) spells.digits) (filled_after n flips stand filled) (no_kings_beside c c_in (king_of White) (king_of Black) (option_to_list lane.first ++ option_to_list lane.last) lane_stood.are) same_names all.1 there) [
    | inl same ↦ (stand, inl refl, record { number = _; men = spelled (list_of lane) same; filled = filled_after n flips stand filled; ends = ends })
    | inr same ↦ (
      swapped stand,
      inr (refl, equal same.1),
      record { number = _; men = spelled (list_of (swapped lane)) same.0; filled = filled_after n flips (swapped stand) (equal_filled stand.first stand.last (equal same.1)); ends = ends },
    )
  ]
    where
      same_names : men_among (list_of lane) ≡ men_among (men_at (material_of c) spells.digits)
      same_names = lane_stood.are ∙ sym (men_spelled c _ (men_at (material_of c) spells.digits) (spelled (men_at (material_of c) spells.digits) refl))

      there : (man : Man) (s : ℕ) → IsListed (list_of lane) man s → IsListed (men_at (material_of c) spells.digits) man s
      there man s h = listed (men_at (material_of c) spells.digits) man s (subst (λ (men : Placement). Stands men s man) same_men (listed_stands (list_of lane) man s (apart_all (list_of lane) all.1) h))

      equal : men_among (option_to_list (entry_after n flips stand.first)) ≡ men_among (option_to_list (entry_after n flips stand.last)) → men_among (option_to_list stand.first) ≡ men_among (option_to_list stand.last)
      equal e = sym (men_stay n flips stand.first) ∙ e ∙ men_stay n flips stand.last

-- the code of a turn of that number
coded_by : (targeted : Bool) (c t n i : ℕ) (flips : Bool) (after : Stand) (side : Side) → t < 16 → t % 8 ≡ n → eqb (t / 8) 1 ≡ flips → n < symmetries (has_pawns (material_of c)) → TellsMen targeted c i (turned_with n flips after) (turned_side flips side)
    → IsTurnedCodeWith targeted c t i after side
coded_by targeted c t n i flips after side t_in number colours keeps tells = record {
  below = t_in;
  keeps = subst (λ k. k < symmetries (has_pawns (material_of c))) (sym number) keeps;
  tells = subst (λ k. TellsMen targeted c i (turned_with k (eqb (t / 8) 1) after) (turned_side (eqb (t / 8) 1) side)) (sym number) (subst (λ f. TellsMen targeted c i (turned_with n f after) (turned_side f side)) (sym colours) tells);
}

either_colours : (flips turns : Bool) → (turns ≡ flips) ⊎ ((turns ≡ not flips) × (differ flips turns ≡ true))
either_colours h0 h1 = grind arith

-- what is the index of a position with the men
pub index_told : Facts → (targeted : Bool) (c i : ℕ) (flips : Bool) (stand : Stand) (side : Side) (q : Setup) → c < 36 → IsFilled stand → HasStand c flips stand side targeted q → IsIndex c q i → IsSomeTurnedCodeWith targeted c i flips stand side
index_told facts targeted c i flips stand side q c_in filled has index = of_colours (either_colours flips turn.1)
  where
    same : index.settled ≡ q
    same = facts.settles_once q index.settled q index.settles (inl (has.settled, refl))

    images : AreImages q index.image
    images = subst (λ (p : Setup). AreImages p index.image) same index.images

    turn : (n : ℕ) × (flipped : Bool) × (n < 8) × KeepsPlay n q.men × IsTurnedBy n flipped q index.image
    turn = facts.turns q index.image has.admissible images

    number : (t : ℕ) × (t < 16) × (t % 8 ≡ turn.0) × (eqb (t / 8) 1 ≡ turn.1)
    number = turn_number turn.0 turn.1 turn.2

    keeps : turn.0 < symmetries (has_pawns (material_of c))
    keeps = kept c flips q turn.0 turn.2 has.is_of turn.3

    class : IsOf c (differ flips turn.1) index.image
    class = turned_class facts c flips turn.1 turn.0 q index.image has.admissible turn.2 turn.3 turn.4 has.is_of

    by : (colours : Bool) (seen : Stand) → turn.1 ≡ colours → IsFilled seen → HasStand c colours seen side targeted q → (after : Stand) × IsInEitherOrder seen after × IsTurnedCodeWith targeted c number.0 i after side
    by colours seen is seen_filled seen_has =
        let told = order_told facts targeted c turn.0 i colours seen side q index.image c_in seen_filled seen_has turn.2 (subst (λ f. IsTurnedBy turn.0 f q index.image) is turn.4) index.spells in
        (told.0, told.1, coded_by targeted c number.0 turn.0 i colours told.0 side number.1 number.2 (number.3 ∙ is) keeps told.2)

    across : IsTrue (has_equal_sides c) → HasStand c (not flips) (seen_across stand) side targeted q
    across equal = has_exchanged facts c flips stand (seen_across stand) side targeted q c_in equal refl refl refl refl has

    across_alone : IsTrue (has_equal_sides c) → (after : Stand) → IsInEitherOrder (seen_across stand) after → after ≡ seen_across stand
    across_alone equal after (inl same) = same
    across_alone equal after (inr h) =
        let order = one_order c stand c_in equal has.stood.are h.1 in
        h.0 ∙ (λ i. record { white = stand.black; black = stand.white; first = order i; last = sym order i })

    of_colours : (turn.1 ≡ flips) ⊎ ((turn.1 ≡ not flips) × (differ flips turn.1 ≡ true)) → IsSomeTurnedCodeWith targeted c i flips stand side
    of_colours (inl own) =
        let told = by flips stand own filled has in
        record { turn = number.0; after = told.0; seen = inl (number.3 ∙ own, told.1); is = told.2 }
    of_colours (inr other) = elim (facts.one_flip index.image c (differ flips turn.1) false c_in class (spells_class c i index.image index.spells)) [
      | inl e ↦ absurd (false≢true (sym e ∙ other.1))
      | inr equal ↦
          let told = by (not flips) (seen_across stand) other.0 (filled_exchanged stand (seen_across stand) refl refl filled) (across equal) in
          record { turn = number.0; after = told.0; seen = inr (equal, number.3 ∙ other.0, across_alone equal told.0 told.1); is = told.2 }
    ]

-- ---- the same men, however they are seen

in_other_order : (targeted : Bool) (c : ℕ) (flips : Bool) (stand : Stand) (side : Side) (q : Setup) → men_among (option_to_list stand.first) ≡ men_among (option_to_list stand.last) → HasStand c flips stand side targeted q → HasStand c flips (swapped stand) side targeted q
in_other_order targeted c flips stand side q equal has = record {
  admissible = has.admissible;
  settled = has.settled;
  is_of = has.is_of;
  stood = record {
    are = ap (λ l. king_of White ∷ king_of Black ∷ l) (ordered_men stand.first stand.last stand.last stand.first (inr (refl, refl, equal))) ∙ has.stood.are;
    all = ordered flips q.men stand.white stand.black stand.first stand.last stand.last stand.first (inr (refl, refl, equal)) has.stood.all;
  };
  side_is = has.side_is;
  target_is = has.target_is;
}

across_again : (x y : Entry) → on_square_of (on_square_of x y) (on_square_of y x) ≡ x
across_again x y = grind arith

twice_not : (b : Bool) → b ≡ not (not b)
twice_not b = grind arith

module _ (facts : Facts) (targeted : Bool) (c : ℕ) (flips turns : Bool) (stand after : Stand) (side : Side) (c_in : c < 36) (seen : IsSeenBy c flips turns stand after) where
  pub seen_so : (q : Setup) → HasStand c flips stand side targeted q → HasStand c turns after side targeted q
  seen_so q has = elim seen [
    | inl own ↦ subst (λ f. HasStand c f after side targeted q) (sym own.0) (elim own.1 [
      | inl same ↦ subst (λ (s : Stand). HasStand c flips s side targeted q) (sym same) has
      | inr other ↦ subst (λ (s : Stand). HasStand c flips s side targeted q) (sym other.0) (in_other_order targeted c flips stand side q other.1 has)
    ])
    | inr across ↦ subst (λ f. HasStand c f after side targeted q) (sym across.1) (subst (λ (s : Stand). HasStand c (not flips) s side targeted q) (sym across.2)
        (has_exchanged facts c flips stand (seen_across stand) side targeted q c_in across.0 refl refl refl refl has))
  ]

-- and back
pub seen_back : (c : ℕ) (flips turns : Bool) (stand after : Stand) → IsSeenBy c flips turns stand after → IsSeenBy c turns flips after stand
seen_back c flips turns stand after (inl (own, inl same)) = inl (sym own, inl (sym same))
seen_back c flips turns stand after (inl (own, inr other)) =
    inl (sym own, inr (sym (ap swapped other.0), ap (λ (s : Stand). men_among (option_to_list s.first)) other.0 ∙ sym other.1 ∙ sym (ap (λ (s : Stand). men_among (option_to_list s.last)) other.0)))
seen_back c flips turns stand after (inr (equal, other, across)) = inr (equal, twice_not flips ∙ ap not (sym other), sym (ap seen_across across ∙ again))
  where
    again : seen_across (seen_across stand) ≡ stand
    again = λ i. record { white = stand.white; black = stand.black; first = across_again stand.first stand.last i; last = across_again stand.last stand.first i }

on_board_across : (x y : Entry) → IfSome x (λ e. e.1 < 64) → IfSome y (λ e. e.1 < 64) → IfSome (on_square_of x y) (λ e. e.1 < 64)
on_board_across x y x_in y_in = grind arith

on_board_so : (c : ℕ) (flips turns : Bool) (stand after : Stand) → IsSeenBy c flips turns stand after → AreOnBoard stand → AreOnBoard after
on_board_so c flips turns stand after (inl (own, inl same)) board = subst AreOnBoard (sym same) board
on_board_so c flips turns stand after (inl (own, inr other)) board = subst AreOnBoard (sym other.0) (record { white = board.white; black = board.black; first = board.last; last = board.first })
on_board_so c flips turns stand after (inr (equal, other, across)) board = subst AreOnBoard (sym across) (record {
  white = board.black;
  black = board.white;
  first = on_board_across stand.first stand.last board.first board.last;
  last = on_board_across stand.last stand.first board.last board.first;
})

-- what such a code spells is an image of a position with the men
pub some_image : Facts → (targeted : Bool) (c code : ℕ) (flips : Bool) (stand : Stand) (side : Side) (r : Setup) → c < 36 → AreOnBoard stand → IsSomeTurnedCodeWith targeted c code flips stand side → Spells c code r
    → (targeted ≡ true → IsSettled r) → (q : Setup) × HasStand c flips stand side targeted q × AreImages q r
some_image facts targeted c code flips stand side r c_in board some spells settled =
    let turns : Bool = eqb (some.turn / 8) 1 in
    let told = image_told facts targeted c (some.turn % 8) code turns some.after side r c_in some.is.keeps (on_board_so c flips turns stand some.after some.seen board) some.is.tells spells settled in
    (told.0, seen_so facts targeted c turns flips some.after stand side c_in (seen_back c flips turns stand some.after some.seen) told.0 told.1, told.2)

-- what a turn makes of a position is spelled by the code
pub record IsSpelledAfter (c t code : ℕ) (q r : Setup) : Type 0 where
  pub turned : IsTurn t q r
  pub images : AreImages q r
  pub spells : Spells c code r

-- the code of the men where the turn takes them spells what it makes of a position with the men
pub spelled_after : Facts → (targeted : Bool) (c t code : ℕ) (stand : Stand) (side : Side) (q : Setup) → HasStand c (eqb (t / 8) 1) stand side targeted q → IsTurnedCodeWith targeted c t code stand side → (r : Setup) × IsSpelledAfter c t code q r
spelled_after facts targeted c t code stand side q has is = (
  made.0,
  record { turned = (keeps, made.1); images = images; spells = stands_told targeted c code made.0 lane (turned_side (eqb (t / 8) 1) side) there is.tells },
)
  where
    few : t % 8 < 8
    few = omega arith

    made : (r : Setup) × IsTurnedBy (t % 8) (eqb (t / 8) 1) q r
    made = facts.made (t % 8) (eqb (t / 8) 1) q has.admissible

    keeps : KeepsPlay (t % 8) q.men
    keeps = keeps_play c (eqb (t / 8) 1) q (t % 8) has.admissible has.is_of is.keeps

    images : AreImages q made.0
    images = facts.images q made.0 (t % 8) (eqb (t / 8) 1) has.admissible few keeps made.1

    set : IsSetBy (t % 8) (eqb (t / 8) 1) q made.0
    set = facts.set (t % 8) (eqb (t / 8) 1) q made.0 has.admissible made.1

    lane : Stand
    lane = turned_by t stand

    same_colours : (f : Bool) → differ f f ≡ false
    same_colours f = grind arith

    there : HasStand c false lane (turned_side (eqb (t / 8) 1) side) targeted made.0
    there = record {
      admissible = facts.admissible q made.0 has.admissible images;
      settled = (facts.settled q made.0 has.admissible images).0 has.settled;
      is_of = subst (λ f. IsOf c f made.0) (same_colours (eqb (t / 8) 1)) (turned_class facts c (eqb (t / 8) 1) (eqb (t / 8) 1) (t % 8) q made.0 has.admissible few keeps made.1 has.is_of);
      stood = stood_by c (t % 8) (eqb (t / 8) 1) q made.0 stand few set has.stood;
      side_is = set.side ∙ ap (turned_side (eqb (t / 8) 1)) has.side_is;
      target_is = ap is_some set.target ∙ some_mapped (turned_square (t % 8) (eqb (t / 8) 1)) q.target ∙ has.target_is;
    }

-- a position with the men is an image of what such a code spells
pub one_image : Facts → (targeted : Bool) (c code : ℕ) (flips : Bool) (stand : Stand) (side : Side) (q r : Setup) → c < 36 → HasStand c flips stand side targeted q → IsSomeTurnedCodeWith targeted c code flips stand side → Spells c code r → AreImages q r
one_image facts targeted c code flips stand side q r c_in has some spells =
    let made = spelled_after facts targeted c some.turn code some.after side q (seen_so facts targeted c flips (eqb (some.turn / 8) 1) stand some.after side c_in some.seen q has) some.is in
    subst (AreImages q) (spells_once c code made.0 r made.1.spells spells) made.1.images

-- ---- one code tells men on their squares

same_placed : (pawns : Bool) (men : List Man) (digits others : List ℕ) → AreDigits (map (base_of pawns) men) digits → AreDigits (map (base_of pawns) men) others → placed pawns men digits ≡ placed pawns men others → digits ≡ others
same_placed pawns [] [] [] are are' same = refl
same_placed pawns [] (d ∷ ds) others are are' same = absurd are
same_placed pawns [] [] (e ∷ es) are are' same = absurd are'
same_placed pawns (man ∷ men) [] others are are' same = absurd are
same_placed pawns (man ∷ men) (d ∷ ds) [] are are' same = absurd are'
same_placed pawns (man ∷ men) (d ∷ ds) (e ∷ es) are are' same =
    let digit = same_digit pawns man d e are.0 are'.0 (ap (λ (x : Man × ℕ). x.1) (heads same)) in
    let rest = same_placed pawns men ds es are.1 are'.1 (tails same) in
    ap (λ x. x ∷ ds) digit ∙ ap (λ l. e ∷ l) rest

pub one_code : (targeted : Bool) (c x y : ℕ) (stand : Stand) (side : Side) → TellsMen targeted c x stand side → TellsMen targeted c y stand side → x ≡ y
one_code targeted c x y stand side one other =
    one.ends.number_is
    ∙ ap (λ n. number_from n (2 ∷ cond (has_target (material_of c)) (2 ∷ []) []) (side_number side ∷ cond (has_target (material_of c)) (cond targeted 1 0 ∷ []) []))
    (one.men.number_is ∙ ap (number_of (men_bases (material_of c))) digits ∙ sym other.men.number_is)
    ∙ sym other.ends.number_is
  where
    digits : one.men.digits ≡ other.men.digits
    digits = same_placed (has_pawns (material_of c)) (men_in_order (material_of c)) one.men.digits other.men.digits one.men.are other.men.are (sym one.men.list_is ∙ other.men.list_is)

-- pawns stand on neither the first rank nor the last
pub pawns_may : (targeted : Bool) (c code : ℕ) (stand : Stand) (side : Side) (man : Man) (s : ℕ) → TellsMen targeted c code stand side → IsListed (list_of stand) man s → MayStand man s
pawns_may targeted c code stand side man s tells h = placed_may (has_pawns (material_of c)) (men_in_order (material_of c)) tells.men.digits man s tells.men.are (subst (λ l. IsListed l man s) tells.men.list_is h)
