-- The men of a class whose sides have the same, with colours exchanged.
use Rattle.std.proofs.Common.{◌≡◌, ℕ, ◌<◌, not, Bool, true, false, eqb, List, [], ◌∷◌, ◌++◌, Some, None, refl, sym, ap}
use Rattle.std.proofs.Common.{◌∙◌, subst, ◌||◌, arith}
use Rattle.egt_index.specs.Prelude.{option_to_list, false≢true, eqb-true, White, Black, Man, Colours, king_of}
use Rattle.egt_index.specs.Prelude.{man_number, man_by, Placement, turned_man, all_below, passes_below, material_of}
use Rattle.egt_index.specs.Prelude.{materials, has_equal_sides, men_beside, men_in_order, Entry, men_among, list_of}
use Rattle.egt_index.specs.Prelude.{AllStand, IsFilled, Stood, on_square_of, Stand}
use Rattle.egt_index.proofs.Counted.{man_told}
use Rattle.egt_index.proofs.MenPlaced.{turned_back}
use Rattle.egt_index.proofs.Tested.{implied}
use Rattle.egt_board.proofs.Parts.{heads, tails}

-- no man, or a man and the same of the other side
is_pair : List Man → Bool
is_pair [] = true
is_pair (a ∷ []) = false
is_pair (a ∷ b ∷ []) = eqb (man_number (man_by Colours a)) (man_number b)
is_pair (a ∷ b ∷ d ∷ list) = false

all_pairs : all_below (λ c. not (has_equal_sides c) || is_pair (men_beside (material_of c))) 36 ≡ true
unfolding all_below is_pair has_equal_sides material_of materials
all_pairs = refl

pair_there : (c : ℕ) → c < 36 → has_equal_sides c ≡ true → is_pair (men_beside (material_of c)) ≡ true
pair_there c c_in equal = implied (has_equal_sides c) _ equal (passes_below (λ c. not (has_equal_sides c) || is_pair (men_beside (material_of c))) 36 c all_pairs c_in)

-- a man of the one colours is the other man of the others
here_there : (flips : Bool) (x y : Man) → man_by Colours x ≡ y → turned_man flips x ≡ turned_man (not flips) y
here_there flips x y same = grind (arith, turned_back)

there_here : (flips : Bool) (x y : Man) → man_by Colours x ≡ y → turned_man flips y ≡ turned_man (not flips) x
there_here flips x y same = grind (arith, turned_back)

all_exchanged : (flips : Bool) (men : Placement) (w b : ℕ) (x y : Entry) → is_pair (men_among (option_to_list x ++ option_to_list y)) ≡ true
    → AllStand flips men ((king_of White, w) ∷ (king_of Black, b) ∷ (option_to_list x ++ option_to_list y))
    → AllStand (not flips) men ((king_of White, b) ∷ (king_of Black, w) ∷ (option_to_list (on_square_of x y) ++ option_to_list (on_square_of y x)))
unfolding is_pair
all_exchanged flips men w b None None pair h = (
  h.3.0,
  h.3.1 ∙ ap Some (there_here flips (king_of White) (king_of Black) refl),
  ((λ same. h.2.0 (sym same)), tt),
  (h.0, h.1 ∙ ap Some (here_there flips (king_of White) (king_of Black) refl), tt, tt),
)
all_exchanged flips men w b None (Some d) pair h = absurd (false≢true pair)
all_exchanged flips men w b (Some e) None pair h = absurd (false≢true pair)
all_exchanged flips men w b (Some e) (Some d) pair h =
    let same : man_by Colours e.0 ≡ d.0 = man_told (man_by Colours e.0) d.0 (eqb-true _ _ pair) in (
      h.3.0,
      h.3.1 ∙ ap Some (there_here flips (king_of White) (king_of Black) refl),
      ((λ same. h.2.0 (sym same)), (h.3.2.1.0, (h.3.2.0, tt))),
      (
        h.0,
        h.1 ∙ ap Some (here_there flips (king_of White) (king_of Black) refl),
        (h.2.1.1.0, (h.2.1.0, tt)),
        (
          h.3.3.3.0,
          h.3.3.3.1 ∙ ap Some (there_here flips e.0 d.0 same),
          ((λ same. h.3.3.2.0 (sym same)), tt),
          (h.3.3.0, h.3.3.1 ∙ ap Some (here_there flips e.0 d.0 same), tt, tt),
        ),
      ),
    )

men_exchanged : (x y : Entry) → men_among (option_to_list (on_square_of x y) ++ option_to_list (on_square_of y x)) ≡ men_among (option_to_list x ++ option_to_list y)
men_exchanged x y = grind arith

-- the men beside the kings of those
pair_stood : (c : ℕ) (flips : Bool) (men : Placement) (stand : Stand) → c < 36 → has_equal_sides c ≡ true → Stood c flips men (list_of stand) → is_pair (men_among (option_to_list stand.first ++ option_to_list stand.last)) ≡ true
pair_stood c flips men stand c_in equal stood = ap is_pair (tails (tails stood.are)) ∙ pair_there c c_in equal

pub stood_exchanged : (c : ℕ) (flips : Bool) (men : Placement) (stand other : Stand) → c < 36 → has_equal_sides c ≡ true → other.white ≡ stand.black → other.black ≡ stand.white
    → other.first ≡ on_square_of stand.first stand.last → other.last ≡ on_square_of stand.last stand.first → Stood c flips men (list_of stand) → Stood c (not flips) men (list_of other)
stood_exchanged c flips men stand other c_in equal white black next last stood = record {
  are = ap (λ l. king_of White ∷ king_of Black ∷ l) (ap (λ (x : Entry). men_among (option_to_list x ++ option_to_list other.last)) next ∙ ap (λ (x : Entry). men_among (option_to_list (on_square_of stand.first stand.last) ++ option_to_list x)) last ∙ men_exchanged stand.first stand.last) ∙ stood.are;
  all =
      subst (λ w. AllStand (not flips) men ((king_of White, w) ∷ (king_of Black, other.black) ∷ (option_to_list other.first ++ option_to_list other.last))) (sym white)
      (subst (λ b. AllStand (not flips) men ((king_of White, stand.black) ∷ (king_of Black, b) ∷ (option_to_list other.first ++ option_to_list other.last))) (sym black)
      (subst (λ (x : Entry). AllStand (not flips) men ((king_of White, stand.black) ∷ (king_of Black, stand.white) ∷ (option_to_list x ++ option_to_list other.last))) (sym next)
      (subst (λ (y : Entry). AllStand (not flips) men ((king_of White, stand.black) ∷ (king_of Black, stand.white) ∷ (option_to_list (on_square_of stand.first stand.last) ++ option_to_list y))) (sym last)
      (all_exchanged flips men stand.white stand.black stand.first stand.last (pair_stood c flips men stand c_in equal stood) stood.all))));
}

filled_both : (x y : Entry) → (x ≡ None → y ≡ None) → on_square_of x y ≡ None → on_square_of y x ≡ None
filled_both x y filled none = grind arith

pub filled_exchanged : (stand other : Stand) → other.first ≡ on_square_of stand.first stand.last → other.last ≡ on_square_of stand.last stand.first → IsFilled stand → IsFilled other
filled_exchanged stand other next last filled = λ none. last ∙ filled_both stand.first stand.last filled (sym next ∙ none)

-- there no two men beside the kings are equal
pair_apart : (x y : Entry) → is_pair (men_among (option_to_list x ++ option_to_list y)) ≡ true → men_among (option_to_list (on_square_of x y)) ≡ men_among (option_to_list (on_square_of y x)) → on_square_of y x ≡ on_square_of x y
unfolding is_pair
pair_apart x y pair same = grind (arith, man_told, eqb-true, heads)

pub one_order : (c : ℕ) (stand : Stand) → c < 36 → has_equal_sides c ≡ true → men_among (list_of stand) ≡ men_in_order (material_of c)
    → men_among (option_to_list (on_square_of stand.first stand.last)) ≡ men_among (option_to_list (on_square_of stand.last stand.first)) → on_square_of stand.last stand.first ≡ on_square_of stand.first stand.last
one_order c stand c_in equal are same = pair_apart stand.first stand.last (ap is_pair (tails (tails are)) ∙ pair_there c c_in equal) same
