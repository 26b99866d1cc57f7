-- The men that a number spells, as a board and as a setup.
use Rattle.std.proofs.Common.{◌≡◌, ◌≢◌, ℕ, ◌<◌, ◌&&◌, not, Bool, true, false, eqb, List, [], ◌∷◌, ◌++◌, length, map}
use Rattle.std.proofs.Common.{Option, arith, refl, sym, ap, ◌∙◌, inl, inr, subst}
use Rattle.egt_index.specs.Prelude.{option_to_list, and_parts, IsAdmissible, passes_below, square_by_digit, men_in_order}
use Rattle.egt_index.specs.Prelude.{is_some, eq-eqb, king_of, PawnsFit, IsKingOn, IsListed, AllApart, AllStand, HasStand}
use Rattle.egt_index.specs.Prelude.{Side, White, Black, Kind, Man, Setup, Ends, IsOff, Stood, Stand}
use Rattle.egt_index.specs.Prelude.{kind_number, side_number, FitsBoard, Placement, IsSettled, material_of, men_beside}
use Rattle.egt_index.specs.Prelude.{men_of, Stands, IsFree, Spells, placed, base_by, base_of, IsTold, rest_of, list_of}
use Rattle.egt_index.specs.Prelude.{setup_of, MayStand, all_below, materials, AreDigits, has_pawns, SpellsMen, men_among}
use Rattle.egt_index.proofs.Classes.{spells_class}
use Rattle.egt_index.proofs.Coded.{few_men, placed_few}
use Rattle.egt_index.proofs.Decoded.{decoded_spells}
use Rattle.egt_index.proofs.Listing.{AreApart, apart_of, fits_of, get_here, get_later, get_none, listed}
use Rattle.egt_index.proofs.Tested.{not_both}
use Rattle.egt_board.proofs.Parts.{tails}

-- squares of their own, and squares on which nothing else stands
pub free_of : (list : List (Man × ℕ)) (q : ℕ) → IsOff list q → IsFree (men_of list) q
free_of [] q off = get_none q
free_of (e ∷ list) q off = get_later e list q (λ same. off.0 (sym same)) ∙ free_of list q off.1

pub off_of : (list : List (Man × ℕ)) (q : ℕ) → IsFree (men_of list) q → IsOff list q
off_of [] q free = tt
off_of (e ∷ list) q free = ((λ same. not_here (sym same)), off_of list q (sym (get_later e list q not_here) ∙ free))
  where
    not_here : q ≡ e.1 → ⊥
    not_here same = let h = sym (get_here e list q same) ∙ free in cc

pub apart_all : (list : List (Man × ℕ)) → AllApart list → AreApart list
apart_all [] apart = tt
apart_all (e ∷ list) apart = (free_of list e.1 apart.0, apart_all list apart.1)

pub all_apart : (list : List (Man × ℕ)) → AreApart list → AllApart list
all_apart [] apart = tt
all_apart (e ∷ list) apart = (off_of list e.1 apart.0, all_apart list apart.1)

pub fits_apart : (list : List (Man × ℕ)) → FitsBoard list → AllApart list
fits_apart list fits = all_apart list (apart_of list fits.apart)

pub apart_fits : (c high : ℕ) (list : List (Man × ℕ)) → SpellsMen (material_of c) high list → AllApart list → FitsBoard list
apart_fits c high list men apart = record {
  few =
      let is = ap length men.list_is in
      let le = placed_few (has_pawns (material_of c)) (men_in_order (material_of c)) men.digits in
      let few = few_men c in omega arith;
  apart = fits_of list (apart_all list apart);
}

placed_men : (pawns : Bool) (men : List Man) (digits : List ℕ) → AreDigits (map (base_of pawns) men) digits → men_among (placed pawns men digits) ≡ men
placed_men pawns [] digits are = refl
placed_men pawns (man ∷ men) [] are = absurd are
placed_men pawns (man ∷ men) (d ∷ ds) are = ap (λ l. man ∷ l) (placed_men pawns men ds are.1)

-- the men are those of the class
pub men_spelled : (c high : ℕ) (list : List (Man × ℕ)) → SpellsMen (material_of c) high list → men_among list ≡ men_in_order (material_of c)
men_spelled c high list men = ap men_among men.list_is ∙ placed_men (has_pawns (material_of c)) (men_in_order (material_of c)) men.digits men.are

may_stand : (pawns : Bool) (side : Side) (kind : Kind) (d : ℕ) → d < base_by pawns side kind → MayStand (record { side = side; kind = kind }) (square_by_digit pawns side kind d)
may_stand pawns side kind d d_in = grind arith

pub placed_may : (pawns : Bool) (men : List Man) (digits : List ℕ) (man : Man) (s : ℕ) → AreDigits (map (base_of pawns) men) digits → IsListed (placed pawns men digits) man s → MayStand man s
placed_may pawns [] digits man s are h = absurd h
placed_may pawns (other ∷ men) [] man s are h = absurd h
placed_may pawns (other ∷ men) (d ∷ ds) man s are (inl h) =
    subst (λ m. MayStand m s) h.0 (subst (MayStand other) h.1 (may_stand pawns other.side other.kind d are.0))
placed_may pawns (other ∷ men) (d ∷ ds) man s are (inr h) = placed_may pawns men ds man s are.1 h

-- no pawn stands on the first rank or the last
pub pawns_spelled : (c high : ℕ) (list : List (Man × ℕ)) → SpellsMen (material_of c) high list → PawnsFit (men_of list)
pawns_spelled c high list men s man stands =
    placed_may (has_pawns (material_of c)) (men_in_order (material_of c)) men.digits man s men.are (subst (λ l. IsListed l man s) men.list_is (listed list man s stands))

is_king : Kind → Bool
is_king kind = eqb (kind_number kind) 5

pub are_no_kings : List Man → Bool
are_no_kings [] = true
are_no_kings (man ∷ men) = not (is_king man.kind) && are_no_kings men

all_no_kings : all_below (λ c. are_no_kings (men_beside (material_of c))) 36 ≡ true
unfolding all_below are_no_kings is_king material_of materials
all_no_kings = refl

-- nor among the men beside the kings
pub no_kings_beside : (c : ℕ) → c < 36 → (w b : Man) (rest : List (Man × ℕ)) → w ∷ b ∷ men_among rest ≡ men_in_order (material_of c) → are_no_kings (men_among rest) ≡ true
no_kings_beside c c_in w b rest are = ap are_no_kings (behind are) ∙ passes_below (λ c. are_no_kings (men_beside (material_of c))) 36 c all_no_kings c_in
  where
    behind : {a b d e : Man} {x y : List Man} → a ∷ b ∷ x ≡ d ∷ e ∷ y → x ≡ y
    behind e = cc

pub no_king_listed : (list : List (Man × ℕ)) (side : Side) (s : ℕ) → are_no_kings (men_among list) ≡ true → IsListed list (king_of side) s → ⊥
unfolding are_no_kings is_king
no_king_listed [] side s none h = h
no_king_listed (e ∷ list) side s none (inl h) = not_both (eqb (kind_number e.0.kind) 5) (eq-eqb _ _ (ap (λ (m : Man). kind_number m.kind) h.0)) (and_parts _ _ none).0
no_king_listed (e ∷ list) side s none (inr h) = no_king_listed list side s (and_parts _ _ none).1 h

-- the kings stand where the stand has them, and nowhere else
pub record AreKings (stand : Stand) : Type 0 where
  pub white : IsKingOn (men_of (list_of stand)) White stand.white
  pub black : IsKingOn (men_of (list_of stand)) Black stand.black

pub kings_spelled : (c high : ℕ) (stand : Stand) → c < 36 → SpellsMen (material_of c) high (list_of stand) → AllApart (list_of stand) → AreKings stand
kings_spelled c high stand c_in men apart = record {
  white = record {
    stands = get_here (king_of White, stand.white) (rest_of stand) stand.white refl;
    only = λ t stands. of_white t (listed (list_of stand) (king_of White) t stands);
  };
  black = record {
    stands = get_later (king_of White, stand.white) (rest_of stand) stand.black apart.0.0 ∙ get_here (king_of Black, stand.black) others stand.black refl;
    only = λ t stands. of_black t (listed (list_of stand) (king_of Black) t stands);
  };
}
  where
    others : List (Man × ℕ)
    others = option_to_list stand.first ++ option_to_list stand.last

    none : are_no_kings (men_among others) ≡ true
    none = ap are_no_kings (tails (tails (men_spelled c high (list_of stand) men))) ∙ passes_below (λ c. are_no_kings (men_beside (material_of c))) 36 c all_no_kings c_in

    of_white : (t : ℕ) → IsListed (list_of stand) (king_of White) t → t ≡ stand.white
    of_white t h1 = grind (arith, side_number, no_king_listed, others, none)

    of_black : (t : ℕ) → IsListed (list_of stand) (king_of Black) t → t ≡ stand.black
    of_black t h1 = grind (arith, side_number, no_king_listed, others, none)

more_stand : (e : Man × ℕ) (list some : List (Man × ℕ)) → IsOff some e.1 → AllStand false (men_of list) some → AllStand false (men_of (e ∷ list)) some
more_stand e list [] off all = tt
more_stand e list (d ∷ some) off all = (all.0, get_later e list d.1 off.0 ∙ all.1, all.2, more_stand e list some off.1 all.3)

all_stand : (list : List (Man × ℕ)) → AllApart list → ((s : ℕ) (man : Man) → Stands (men_of list) s man → s < 64) → AllStand false (men_of list) list
all_stand [] apart on_board = tt
all_stand (e ∷ list) apart on_board = (
  on_board e.1 e.0 (get_here e list e.1 refl),
  get_here e list e.1 refl,
  apart.0,
  more_stand e list list apart.0 (all_stand list apart.1 (λ s man stands. on_board s man (get_later e list s (not_here s man stands) ∙ stands))),
)
  where
    not_here : (s : ℕ) (man : Man) → Stands (men_of list) s man → s ≢ e.1
    not_here s man stands same = let h = sym (free_of list e.1 apart.0) ∙ subst (λ q. Stands (men_of list) q man) same stands in cc

target_there : (targeted : Bool) (side : Side) (list : List (Man × ℕ)) (target : Option ℕ) → IsTold targeted side list target → is_some target ≡ targeted
target_there targeted side list target told = grind (arith, is_some)

-- a position with these men has them in their places
pub stood_spelled : (c high : ℕ) (stand : Stand) (p : Setup) → SpellsMen (material_of c) high (list_of stand) → AllApart (list_of stand) → IsAdmissible p → p.men ≡ men_of (list_of stand) → Stood c false p.men (list_of stand)
stood_spelled c high stand p men apart ok is = record {
  are = men_spelled c high (list_of stand) men;
  all = subst (λ (m : Placement). AllStand false m (list_of stand)) (sym is) (all_stand (list_of stand) apart (λ s man stands. ok.on_board s man (subst (λ (m : Placement). Stands m s man) (sym is) stands)));
}

-- the setup has the stand
pub stand_spelled : (c code high : ℕ) (stand : Stand) (side : Side) (targeted : Bool) (target : Option ℕ) → SpellsMen (material_of c) high (list_of stand) → AllApart (list_of stand) → IsTold targeted side (list_of stand) target
    → Spells c code (setup_of (list_of stand) side target) → IsSettled (setup_of (list_of stand) side target) → HasStand c false stand side targeted (setup_of (list_of stand) side target)
stand_spelled c code high stand side targeted target men apart told spells settled = record {
  admissible = spells.admissible;
  settled = settled;
  is_of = spells_class c code (setup_of (list_of stand) side target) spells;
  stood = stood_spelled c high stand (setup_of (list_of stand) side target) men apart spells.admissible refl;
  side_is = refl;
  target_is = target_there targeted side (list_of stand) target told;
}

-- a position with the board is the setup
pub on_board_of : (list : List (Man × ℕ)) (side : Side) (target : Option ℕ) (men : Placement) (p : Setup) → men ≡ men_of list → p ≡ record { men = men; side = side; target = target } → p ≡ setup_of list side target
on_board_of list side target men p men_is is = grind arith

pub setup_spelled : (c code high : ℕ) (side : Side) (targeted : Bool) (list : List (Man × ℕ)) (target : Option ℕ) (p : Setup) → Ends (material_of c) code high side targeted → SpellsMen (material_of c) high list → IsTold targeted side list target
    → AllApart list → p ≡ setup_of list side target → IsAdmissible p → Spells c code p
setup_spelled c code high side targeted list target p ends men told apart is ok =
    subst (Spells c code) (sym is) (decoded_spells (material_of c) code high side targeted list target ends men told (apart_fits c high list men apart) (subst IsAdmissible is ok))
