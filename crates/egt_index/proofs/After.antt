-- The men of a class where a turn takes them, and the code of their squares.
use Rattle.std.proofs.Common.{◌≡◌, ◌≢◌, ℕ, ◌/◌, ◌%◌, ◌<◌, ◌≤◌, ◌&&◌, Bool, true, false, cond, ltb, eqb, List, [], ◌∷◌}
use Rattle.std.proofs.Common.{◌++◌, map, Option, Some, arith, refl, sym, ap, ◌∙◌, inl, inr, subst, slice_index}
use Rattle.egt_index.specs.Prelude.{option_map, Colours, material_of, king_square, number_from, entry_after, turned_with}
use Rattle.egt_index.specs.Prelude.{option_to_list, Man, get-remove_same, get-remove_other, turned_square, target_digits}
use Rattle.egt_index.specs.Prelude.{cases_eq, eqb-true, ltb-true, IsKingOn, Material, IsOf, IsListed, AllApart, AllStand}
use Rattle.egt_index.specs.Prelude.{and_parts, Placement, IsSettled, turned_man, AreCounted, men_beside, has_target}
use Rattle.egt_index.specs.Prelude.{White, Black, Setup, Facts, Picks, Tells, Entry, IsOff, Stood, IsTurn, Stand}
use Rattle.egt_index.specs.Prelude.{king_of, all_below, AreDigits, king_base, has_pawns, men_among, IsInOrder, IsOrdered}
use Rattle.egt_index.specs.Prelude.{side_number, IsAdmissible, turned_side, passes_below, target_digit, IsStandAfter}
use Rattle.egt_index.specs.Prelude.{men_of, Stands, IsSetBy, placed, Goes, base_of, rest_of, list_of, HasDigit, TurnCode}
use Rattle.std.specs.FinMap as placement
use Rattle.egt_board.specs.Symmetry.{square_if, square_of, KeepsPlay}
use Rattle.egt_index.specs.Code as code_words
use Rattle.egt_index.proofs.Classes.{image_in_colours}
use Rattle.egt_index.proofs.Counted.{counted_rest, none_left}
use Rattle.egt_index.proofs.Found.{code_made}
use Rattle.egt_index.proofs.Listing.{AreApart, first_back, remove_first, get_here, listed}
use Rattle.egt_index.proofs.MenPlaced.{turned_back}
use Rattle.egt_index.proofs.ImageCodes.{counted_of}
use Rattle.egt_board.proofs.Parts.{tails}

-- the symmetry that undoes another
unfoldable pub inverse : ℕ → ℕ
inverse n = slice_index (0 ∷ 1 ∷ 2 ∷ 3 ∷ 4 ∷ 6 ∷ 5 ∷ 7 ∷ []) n

unfoldable pub back : ℕ → Bool → ℕ → ℕ
back n flips s = square_of (inverse n) (square_if flips Colours s)

goes_back : Bool → ℕ → ℕ → Bool
goes_back flips n s = ltb (turned_square n flips s) 64 && eqb (back n flips (turned_square n flips s)) s

all_go_back : (flips : Bool) → all_below (λ n. all_below (goes_back flips n) 64) 8 ≡ true
unfolding all_below goes_back back inverse
all_go_back true = refl
all_go_back false = refl

pub went_back : (n : ℕ) (flips : Bool) (s : ℕ) → n < 8 → s < 64 → (turned_square n flips s < 64) × (back n flips (turned_square n flips s) ≡ s)
unfolding goes_back
went_back n flips s n_in s_in =
    let both = and_parts _ _ (passes_below (goes_back flips n) 64 s (passes_below (λ n. all_below (goes_back flips n) 64) 8 n (all_go_back flips) n_in) s_in) in
    (ltb-true _ _ both.0, eqb-true _ _ both.1)

pub turned_apart : (n : ℕ) (flips : Bool) (s t : ℕ) → n < 8 → s < 64 → t < 64 → s ≢ t → turned_square n flips s ≢ turned_square n flips t
turned_apart n flips s t n_in s_in t_in apart same = apart (sym (went_back n flips s n_in s_in).1 ∙ ap (back n flips) same ∙ (went_back n flips t n_in t_in).1)

abbrev pub turn_one : ℕ → Bool → Man × ℕ → Man × ℕ
turn_one n flips e = (e.0, turned_square n flips e.1)

off_after : (n : ℕ) (flips f : Bool) (men : Placement) (list : List (Man × ℕ)) (q : ℕ) → n < 8 → q < 64 → AllStand f men list → IsOff list q → IsOff (map (turn_one n flips) list) (turned_square n flips q)
off_after n flips f men [] q n_in q_in all off = tt
off_after n flips f men (e ∷ list) q n_in q_in all off = (turned_apart n flips e.1 q n_in all.0 q_in off.0, off_after n flips f men list q n_in q_in all.3 off.1)

all_after : (n : ℕ) (flips : Bool) (p q : Setup) (list : List (Man × ℕ)) → n < 8 → IsSetBy n flips p q → AllStand flips p.men list → AllStand false q.men (map (turn_one n flips) list)
all_after n flips p q [] n_in set all = tt
all_after n flips p q (e ∷ list) n_in set all = (
  (went_back n flips e.1 n_in all.0).0,
  set.men e.1 all.0 ∙ ap (option_map (turned_man flips)) all.1 ∙ ap Some (turned_back flips e.0),
  off_after n flips flips p.men list e.1 n_in all.0 all.3 all.2,
  all_after n flips p q list n_in set all.3,
)

after_to_list : (n : ℕ) (flips : Bool) (x : Entry) → map (turn_one n flips) (option_to_list x) ≡ option_to_list (entry_after n flips x)
after_to_list n flips x = grind arith

pub both_to_list : (n : ℕ) (flips : Bool) (x y : Entry) → map (turn_one n flips) (option_to_list x ++ option_to_list y) ≡ option_to_list (entry_after n flips x) ++ option_to_list (entry_after n flips y)
both_to_list n flips x y = grind (arith, after_to_list)

exchange_off : (x y : Entry) (q : ℕ) → IsOff (option_to_list x ++ option_to_list y) q → IsOff (option_to_list y ++ option_to_list x) q
exchange_off x y q off = grind arith

exchange_all : (f : Bool) (men : Placement) (x y : Entry) → AllStand f men (option_to_list x ++ option_to_list y) → AllStand f men (option_to_list y ++ option_to_list x)
exchange_all f men x y all = grind arith

kings_with : (f : Bool) (men : Placement) (w b : ℕ) (list other : List (Man × ℕ)) → ((q : ℕ) → IsOff list q → IsOff other q) → (AllStand f men list → AllStand f men other)
    → AllStand f men ((king_of White, w) ∷ (king_of Black, b) ∷ list) → AllStand f men ((king_of White, w) ∷ (king_of Black, b) ∷ other)
kings_with f men w b list other off all h = (h.0, h.1, (h.2.0, off w h.2.1), (h.3.0, h.3.1, off b h.3.2, all h.3.3))

-- two entries, in one order or, where the men are equal, the other
pub ordered : (f : Bool) (men : Placement) (w b : ℕ) (x y first second : Entry) → IsOrdered x y first second
    → AllStand f men ((king_of White, w) ∷ (king_of Black, b) ∷ (option_to_list x ++ option_to_list y)) → AllStand f men ((king_of White, w) ∷ (king_of Black, b) ∷ (option_to_list first ++ option_to_list second))
ordered f men w b x y first second h all = grind (arith, kings_with, exchange_off, exchange_all)

pub ordered_men : (x y first second : Entry) → IsOrdered x y first second → men_among (option_to_list first ++ option_to_list second) ≡ men_among (option_to_list x ++ option_to_list y)
ordered_men x y first second h = grind arith

pub turned_men : (n : ℕ) (flips : Bool) (list : List (Man × ℕ)) → men_among (map (turn_one n flips) list) ≡ men_among list
turned_men n flips [] = refl
turned_men n flips (e ∷ list) = ap (λ l. e.0 ∷ l) (turned_men n flips list)

-- the men of the class after the turn
pub stood_after : (c n : ℕ) (flips : Bool) (p q : Setup) (before after : Stand) → n < 8 → IsSetBy n flips p q → Stood c flips p.men (list_of before) → IsStandAfter n flips before after → Stood c false q.men (list_of after)
stood_after c n flips p q before after n_in set stood is = record {
  are = ap (λ l. king_of White ∷ king_of Black ∷ l) (ordered_men _ _ after.first after.last is.both ∙ ap men_among (sym (both_to_list n flips before.first before.last)) ∙ turned_men n flips (option_to_list before.first ++ option_to_list before.last)) ∙ stood.are;
  all = ordered false q.men after.white after.black (entry_after n flips before.first) (entry_after n flips before.last) after.first after.last is.both
      (subst (λ l. AllStand false q.men ((king_of White, after.white) ∷ (king_of Black, after.black) ∷ l)) (both_to_list n flips before.first before.last)
      (subst (λ w. AllStand false q.men ((king_of White, w) ∷ (king_of Black, after.black) ∷ map (turn_one n flips) (option_to_list before.first ++ option_to_list before.last))) (sym is.white)
      (subst (λ b. AllStand false q.men ((king_of White, turned_square n flips before.white) ∷ (king_of Black, b) ∷ map (turn_one n flips) (option_to_list before.first ++ option_to_list before.last))) (sym is.black)
      (all_after n flips p q (list_of before) n_in set stood.all))));
}

-- where a turn takes the men of a stand, each in his place
pub stood_by : (c n : ℕ) (flips : Bool) (p q : Setup) (stand : Stand) → n < 8 → IsSetBy n flips p q → Stood c flips p.men (list_of stand) → Stood c false q.men (list_of (turned_with n flips stand))
stood_by c n flips p q stand n_in set stood = record {
  are = ap men_among (sym list_is) ∙ turned_men n flips (list_of stand) ∙ stood.are;
  all = subst (AllStand false q.men) list_is (all_after n flips p q (list_of stand) n_in set stood.all);
}
  where
    list_is : map (turn_one n flips) (list_of stand) ≡ list_of (turned_with n flips stand)
    list_is = ap (λ l. (king_of White, turned_square n flips stand.white) ∷ (king_of Black, turned_square n flips stand.black) ∷ l) (both_to_list n flips stand.first stand.last)

still : (f : Bool) (men : Placement) (s : ℕ) (list : List (Man × ℕ)) → IsOff list s → AllStand f men list → AllStand f (placement.remove men s) list
still f men s [] off all = tt
still f men s (e ∷ list) off all = (all.0, get-remove_other men s e.1 off.0 ∙ all.1, all.2, still f men s list off.1 all.3)

-- men that all stand and are all that are counted are the placement
pub all_there : (men : Placement) (list : List (Man × ℕ)) → ((s : ℕ) (man : Man) → Stands men s man → s < 64) → AreCounted men (men_among list) → AllStand false men list → (men ≡ men_of list) × AreApart list
all_there men [] on_board counted all = (none_left men on_board counted, tt)
all_there men (e ∷ list) on_board counted all =
    let rest = all_there (placement.remove men e.1) list stays (counted_rest men e.0 (men_among list) e.1 all.0 all.1 counted) (still false men e.1 list all.2 all.3) in
    (first_back men e list all.1 rest.0, (sym (ap (λ m. placement.get m e.1) rest.0) ∙ get-remove_same men e.1 e.1 refl, rest.1))
  where
    stays : (s : ℕ) (other : Man) → Stands (placement.remove men e.1) s other → s < 64
    stays s other stands = grind (arith, cases_eq, get-remove_same, get-remove_other)

-- no equal man behind stands on a lesser square
abbrev pub AreSorted : List (Man × ℕ) → Type 0
AreSorted [] = Unit {0}
AreSorted (e ∷ list) = (e.1 < 64) × ((s : ℕ) → IsListed list e.0 s → e.1 ≤ s) × AreSorted list

pub picks_sorted : (pawns : Bool) (men : List Man) (digits : List ℕ) → AreDigits (map (base_of pawns) men) digits → AreApart (placed pawns men digits) → AreSorted (placed pawns men digits)
    → Picks pawns (men_of (placed pawns men digits)) men digits
picks_sorted pawns [] digits are apart sorted = tt
picks_sorted pawns (man ∷ men) [] are apart sorted = absurd are
picks_sorted pawns (man ∷ men) (d ∷ ds) are apart sorted = (
  sorted.0,
  record {
    stands = get_here (man, code_words.square_of pawns man d) (placed pawns men ds) (code_words.square_of pawns man d) refl;
    least = λ t lt stands. elim (listed ((man, code_words.square_of pawns man d) ∷ placed pawns men ds) man t stands) [
      | inl h ↦ let same = h.1 in omega arith
      | inr later ↦ let le = sorted.1 t later in omega arith
    ];
  },
  subst (λ m. Picks pawns m men ds) (sym (remove_first (man, code_words.square_of pawns man d) (placed pawns men ds) apart.0)) (picks_sorted pawns men ds are.1 apart.1 sorted.2),
)

sorted_two : (men : Placement) (x y : Entry) → AllStand false men (option_to_list x ++ option_to_list y) → IsInOrder x y → AreSorted (option_to_list x ++ option_to_list y)
sorted_two men x y all order = grind arith

-- men who stand, each on a square of his own
pub all_apart : (flips : Bool) (men : Placement) (list : List (Man × ℕ)) → AllStand flips men list → AllApart list
all_apart flips men [] all = tt
all_apart flips men (e ∷ list) all = (all.2, all_apart flips men list all.3)

pub listed_there : (men : Placement) (list : List (Man × ℕ)) (man : Man) (s : ℕ) → AllStand false men list → IsListed list man s → Stands men s man
listed_there men [] man s all h = absurd h
listed_there men (e ∷ list) man s all (inl h) = subst (λ m. Stands men s m) h.0 (subst (λ q. Stands men q e.0) h.1 all.1)
listed_there men (e ∷ list) man s all (inr h) = listed_there men list man s all.3 h

pub sorted_rest : (p : Setup) (stand : Stand) → IsAdmissible p → AllStand false p.men (list_of stand) → IsInOrder stand.first stand.last → AreSorted (rest_of stand)
sorted_rest p stand ok all order = grind (arith, listed_there, sorted_two)

-- what the turn makes of a position, with the men of the class where it takes them
pub record ImageStood (c : ℕ) (p : Setup) (t : ℕ) (after : Stand) : Type 0 where
  pub image : Setup
  pub turned : IsTurn t p image
  pub admissible : IsAdmissible image
  pub settled : IsSettled image
  pub is_of : IsOf c false image
  pub stood : Stood c false image.men (list_of after)
  pub in_order : IsInOrder after.first after.last
  pub side : image.side ≡ turned_side (eqb (t / 8) 1) p.side
  pub target : image.target ≡ option_map (turned_square (t % 8) (eqb (t / 8) 1)) p.target

pub image_stood : Facts → (c : ℕ) (p : Setup) (t : ℕ) (before after : Stand) → c < 36 → IsAdmissible p → IsSettled p → IsOf c (eqb (t / 8) 1) p → KeepsPlay (t % 8) p.men → Stood c (eqb (t / 8) 1) p.men (list_of before)
    → IsStandAfter (t % 8) (eqb (t / 8) 1) before after → ImageStood c p t after
image_stood facts c p t before after c_in ok settled is_of keeps stood is =
    let made = facts.made (t % 8) (eqb (t / 8) 1) p ok in
    let images = facts.images p made.0 (t % 8) (eqb (t / 8) 1) ok (omega arith) keeps made.1 in
    let set = facts.set (t % 8) (eqb (t / 8) 1) p made.0 ok made.1 in
    record {
      image = made.0;
      turned = (keeps, made.1);
      admissible = facts.admissible p made.0 ok images;
      settled = (facts.settled p made.0 ok images).0 settled;
      is_of = image_in_colours facts c (eqb (t / 8) 1) p made.0 t c_in ok is_of (keeps, made.1) (inr refl);
      stood = stood_after c (t % 8) (eqb (t / 8) 1) p made.0 before after (omega arith) set stood is;
      in_order = is.in_order;
      side = set.side;
      target = set.target;
    }

digit_of : (p : Setup) (w : ℕ) (e : Man × ℕ) → IsAdmissible p → Stands p.men w (king_of White) → Stands p.men e.1 e.0 → e.1 ≢ w → HasDigit (Some e)
digit_of p w e ok white stands apart = grind arith

digits_of : (p : Setup) (w : ℕ) (x y : Entry) → IsAdmissible p → Stands p.men w (king_of White) → AllStand false p.men (option_to_list x ++ option_to_list y) → IsOff (option_to_list x ++ option_to_list y) w → HasDigit x × HasDigit y
digits_of p w x y ok white all off = grind (arith, digit_of)

pub digits_after : (c : ℕ) (p : Setup) (t : ℕ) (after : Stand) → ImageStood c p t after → HasDigit after.first × HasDigit after.last
digits_after c p t after i = digits_of i.image after.white after.first after.last i.admissible i.stood.all.1 i.stood.all.3.3 i.stood.all.2.1

goes_from : (pawns : Bool) (high number : ℕ) (men : List Man) (list : List (Man × ℕ)) → AreApart list → AreSorted list → Tells pawns number men high list → Goes pawns high (men_of list) men number
goes_from pawns high number men list apart sorted tells = grind (arith, men_of, picks_sorted)

same_target : (f : ℕ → ℕ) (o : Option ℕ) → target_digit (option_map f o) ≡ target_digit o
same_target f o = grind arith

-- the digits of the squares make the least code
pub code_stood : (c : ℕ) (p : Setup) (t : ℕ) (after : Stand) (high number code : ℕ) → ImageStood c p t after → high < king_base (has_pawns (material_of c)) → king_square (has_pawns (material_of c)) high ≡ after.white
    → Tells (has_pawns (material_of c)) number (men_among (rest_of after)) high (rest_of after)
    → code ≡ number_from number (2 ∷ cond (has_target (material_of c)) (2 ∷ []) []) (side_number (turned_side (eqb (t / 8) 1) p.side) ∷ target_digits (material_of c) p.target) → TurnCode c p t code
code_stood c p t after high number code i below is tells coded = record {
  image = i.image;
  turned = i.turned;
  coded = code_made c i.image after.white high number code i.admissible i.settled i.is_of (subst (IsKingOn i.image.men White) (sym (there.only after.white i.stood.all.1)) there) below is goes
      (coded
      ∙ ap (λ s. number_from number ends (side_number s ∷ target_digits m p.target)) (sym i.side)
      ∙ ap (λ d. number_from number ends (side_number i.image.side ∷ cond (has_target m) (d ∷ []) [])) (sym (same_target _ p.target))
      ∙ ap (λ o. number_from number ends (side_number i.image.side ∷ target_digits m o)) (sym i.target));
}
  where
    m : Material
    m = material_of c

    ends : List ℕ
    ends = 2 ∷ cond (has_target m) (2 ∷ []) []

    there : IsKingOn i.image.men White i.admissible.kings.white
    there = i.admissible.kings.white_there

    all : (i.image.men ≡ men_of (list_of after)) × AreApart (list_of after)
    all = all_there i.image.men (list_of after) i.admissible.on_board (subst (AreCounted i.image.men) (sym i.stood.are) (counted_of c i.image i.is_of)) i.stood.all

    goes : Goes (has_pawns m) high (placement.remove i.image.men after.white) (king_of Black ∷ men_beside m) number
    goes =
        subst (λ men. Goes (has_pawns m) high men (king_of Black ∷ men_beside m) number) (sym (ap (λ men. placement.remove men after.white) all.0 ∙ remove_first (king_of White, after.white) (rest_of after) all.1.0))
        (subst (λ l. Goes (has_pawns m) high (men_of (rest_of after)) l number) (tails i.stood.are)
        (goes_from (has_pawns m) high number (men_among (rest_of after)) (rest_of after) all.1.1 (sorted_rest i.image after i.admissible i.stood.all i.in_order) tells))
