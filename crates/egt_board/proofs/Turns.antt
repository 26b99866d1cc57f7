-- Positions turned: what a turn makes, and that one turn after another is a turn.
use Rattle.std.proofs.Common.{◌≡◌, ℕ, zero, suc, ◌+◌, ◌-◌, ◌*◌, ◌<◌, ◌⊎◌, ◌/◌, ◌%◌, ◌==◌, ◌&&◌, not, Bool, true, false}
use Rattle.std.proofs.Common.{Option, Some, None, arith, refl, sym, ap, ◌∙◌, subst, inl, inr}
use Rattle.egt_board.specs.Prelude.{option_map, IsMirrored, no_pawn_by, AreMirrored, IsTurnedBy, turned_man, turned_side}
use Rattle.egt_board.specs.Prelude.{eqb-true, IsAdmissible, square_by-within, man_by-twice, side_by-twice, turned_square}
use Rattle.egt_board.specs.Prelude.{and_parts, Colours, square_by, square_if, square_of, KeepsPlay, IsCarried, turned_by}
use Rattle.egt_board.specs.Prelude.{cases_eq, Files, Diagonal, side_by, OnBoard, setup_by, setup_if, AreImages, Reflects}
use Rattle.egt_board.specs.Prelude.{Mirror, Ranks, Side, Man, Setup, man_by, IsImage, IsSetBy, IsTurn}
use Rattle.std.specs.FinMap as map
use Rattle.egt_board.proofs.Reflected.{men_by-on_board, same_on_board, setup_by-is, setup_by-only, setup_by-back}
use Rattle.egt_board.proofs.Images.{Kept, Kept-on, setup_by-kept, images_by_turn, images_on, images_kept, image_kept, setup_if-is, carried_on, Onto, carried_only, square_if-within, square_if-twice, onto_three, target_within}

setup_if-on_board : (turns : Bool) (m : Mirror) (p : Setup) → OnBoard p.men → OnBoard (setup_if turns m p).men
unfolding setup_if
setup_if-on_board turns m p ok = grind (arith, men_by-on_board)

-- the setup under the symmetry of that number
image_by : ℕ → Setup → Setup
image_by n p = setup_if (n / 4 == 1) Diagonal (setup_if (n / 2 % 2 == 1) Ranks (setup_if (n % 2 == 1) Files p))

image_by-is : (n : ℕ) (p : Setup) → OnBoard p.men → IsImage n p (image_by n p)
unfolding image_by
image_by-is n p ok = carried_on _ (square_if (n / 4 == 1) Diagonal) p p2 (setup_if (n / 4 == 1) Diagonal p2) (λ t t_in. square_if-within (n / 2 % 2 == 1) Ranks _ (square_if-within (n % 2 == 1) Files t t_in)) is2
    (setup_if-is (n / 4 == 1) Diagonal p2 tt ok2)
  where
    p1 : Setup
    p1 = setup_if (n % 2 == 1) Files p

    ok1 : OnBoard p1.men
    ok1 = setup_if-on_board (n % 2 == 1) Files p ok

    p2 : Setup
    p2 = setup_if (n / 2 % 2 == 1) Ranks p1

    ok2 : OnBoard p2.men
    ok2 = setup_if-on_board (n / 2 % 2 == 1) Ranks p1 ok1

    is2 : IsCarried (λ s. square_if (n / 2 % 2 == 1) Ranks (square_if (n % 2 == 1) Files s)) p p2
    is2 = carried_on (square_if (n % 2 == 1) Files) (square_if (n / 2 % 2 == 1) Ranks) p p1 p2 (square_if-within (n % 2 == 1) Files) (setup_if-is (n % 2 == 1) Files p tt ok) (setup_if-is (n / 2 % 2 == 1) Ranks p1 tt ok1)

onto_square : (n : ℕ) → Onto (square_of n)
onto_square n = onto_three (n % 2 == 1) (n / 2 % 2 == 1) (n / 4 == 1) Files Ranks Diagonal

image_only : (n : ℕ) (p q r : Setup) → IsImage n p q → IsImage n p r → q ≡ r
image_only n p q r = carried_only (square_of n) p q r (onto_square n)

pub turned_by-is : (n : ℕ) (flipped : Bool) (p : Setup) → OnBoard p.men → IsTurnedBy n flipped p (turned_by n flipped p)
unfolding turned_by setup_if image_by
turned_by-is n false p ok = image_by-is n p ok
turned_by-is n true p ok = (image_by n p, image_by-is n p ok, setup_by-is Colours (image_by n p))

pub turned_once : (n : ℕ) (flipped : Bool) (p q r : Setup) → IsTurnedBy n flipped p q → IsTurnedBy n flipped p r → q ≡ r
turned_once n false p q r first second = image_only n p q r first second
turned_once n true p q r first second =
    setup_by-only Colours first.0 q first.2 ∙ ap (setup_by Colours) (image_only n p first.0 second.0 first.1 second.1) ∙ sym (setup_by-only Colours second.0 r second.2)

pub turned_made : (n : ℕ) (flipped : Bool) (p q : Setup) → OnBoard p.men → (IsTurnedBy n flipped p q → q ≡ turned_by n flipped p) × (q ≡ turned_by n flipped p → IsTurnedBy n flipped p q)
turned_made n flipped p q ok = (
  λ is. turned_once n flipped p q (turned_by n flipped p) is (turned_by-is n flipped p ok),
  λ e. subst (IsTurnedBy n flipped p) (sym e) (turned_by-is n flipped p ok),
)

square_of-within : (n s : ℕ) → s < 64 → square_of n s < 64
square_of-within n s s_in = square_if-within (n / 4 == 1) Diagonal _ (square_if-within (n / 2 % 2 == 1) Ranks _ (square_if-within (n % 2 == 1) Files s s_in))

same_man : (o : Option Man) → option_map (turned_man false) o ≡ o
same_man o = grind arith

map_twice : {A B C : Type 0} (f : A → B) (g : B → C) (o : Option A) → option_map g (option_map f o) ≡ option_map (λ a. g (f a)) o
map_twice f g o = grind arith

-- a turn sets each man where it takes it
pub turned_sets : (n : ℕ) (flipped : Bool) (p q : Setup) → IsTurnedBy n flipped p q → IsSetBy n flipped p q
turned_sets n false p q is = record {
  men = λ t t_in. is.men t t_in ∙ sym (same_man (map.get p.men t));
  side = is.side;
  target = is.target;
  on_board = is.on_board;
}
turned_sets n true p q is = record {
  men = λ t t_in. is.2.men (square_of n t) (square_of-within n t t_in) ∙ ap (option_map (man_by Colours)) (is.1.men t t_in);
  side = is.2.side ∙ ap (side_by Colours) is.1.side;
  target = is.2.target ∙ ap (option_map (square_by Colours)) is.1.target ∙ map_twice (square_of n) (square_by Colours) p.target;
  on_board = is.2.on_board;
}

onto_turned : (n : ℕ) (flipped : Bool) → Onto (turned_square n flipped)
unfolding Onto
onto_turned n flipped = λ u u_in.
    let from = onto_square n (square_if flipped Colours u) (square_if-within flipped Colours u u_in) in
    (from.0, from.1, ap (square_if flipped Colours) from.2 ∙ square_if-twice flipped Colours u u_in)

set_once : (n : ℕ) (flipped : Bool) (p q r : Setup) → IsSetBy n flipped p q → IsSetBy n flipped p r → q ≡ r
unfolding Onto
set_once n flipped p q r first second = λ i. record { men = men i; side = (first.side ∙ sym second.side) i; target = (first.target ∙ sym second.target) i }
  where
    men : q.men ≡ r.men
    men = same_on_board q.men r.men first.on_board second.on_board (λ u u_in.
        let from = onto_turned n flipped u u_in in
        subst (λ x. map.get q.men x ≡ map.get r.men x) from.2 (first.men from.0 from.1 ∙ sym (second.men from.0 from.1)))

pub turned_set : (n : ℕ) (flipped : Bool) (p q : Setup) → OnBoard p.men → (IsTurnedBy n flipped p q → IsSetBy n flipped p q) × (IsSetBy n flipped p q → IsTurnedBy n flipped p q)
turned_set n flipped p q ok = (
  turned_sets n flipped p q,
  λ set. subst (IsTurnedBy n flipped p) (set_once n flipped p (turned_by n flipped p) q (turned_sets n flipped p (turned_by n flipped p) (turned_by-is n flipped p ok)) set) (turned_by-is n flipped p ok),
)

-- what a turn keeps
pub turned_kept : (n : ℕ) (flipped : Bool) (p q : Setup) → IsAdmissible p → KeepsPlay n p.men → IsTurnedBy n flipped p q → Kept p q
turned_kept n false p q ok keeps is = image_kept n p q ok keeps is
turned_kept n true p q ok keeps is =
    let first = image_kept n p is.0 ok keeps is.1 in
    Kept-on p is.0 q first (subst (Kept is.0) (sym (setup_by-only Colours is.0 q is.2)) (setup_by-kept Colours is.0 first.admissible tt))

pub turned_is_image : (n : ℕ) (flipped : Bool) (p q : Setup) → n < 8 → KeepsPlay n p.men → IsTurnedBy n flipped p q → AreImages p q
turned_is_image n false p q less keeps is = images_by_turn p q (inl (n, less, keeps, is))
turned_is_image n true p q less keeps is = images_on p is.0 q (images_by_turn p is.0 (inl (n, less, keeps, is.1))) (images_by_turn is.0 q (inr is.2))

-- a mirror and then a turn are the turn of this number, flipped so
number_then : Mirror → ℕ → ℕ
number_then Files n = (1 - n % 2) + 2 * (n / 2 % 2) + 4 * (n / 4)
number_then Ranks n = n % 2 + 2 * (1 - n / 2 % 2) + 4 * (n / 4)
number_then Diagonal n = n / 2 % 2 + 2 * (n % 2) + 4 * (1 - n / 4)
number_then Colours n = (n % 2 + n / 4) % 2 + 2 * ((n / 2 % 2 + n / 4) % 2) + 4 * (n / 4)

flipped_then : Mirror → Bool → Bool
flipped_then Files flipped = flipped
flipped_then Ranks flipped = flipped
flipped_then Diagonal flipped = flipped
flipped_then Colours flipped = not flipped

all_below : ℕ → (ℕ → Bool) → Bool
all_below zero holds = true
all_below (suc n) holds = holds n && all_below n holds

all_below-at : (n : ℕ) (holds : ℕ → Bool) (k : ℕ) → all_below n holds ≡ true → k < n → holds k ≡ true
unfolding all_below
all_below-at zero holds k all less = absurd (omega arith)
all_below-at (suc n) holds k all less = elim (cases_eq k n) [
  | inl e ↦ ap holds e ∙ (and_parts (holds n) _ all).0
  | inr other ↦ all_below-at n holds k (and_parts (holds n) _ all).1 (omega arith)
]

-- so on each square, by trying them all
agrees : Mirror → Bool → Bool
agrees m flipped = all_below 8 (λ n. all_below 64 (λ s. turned_square (number_then m n) (flipped_then m flipped) s == turned_square n flipped (square_by m s)))

agree : (m : Mirror) (flipped : Bool) → agrees m flipped ≡ true
unfolding agrees all_below number_then flipped_then
agree Files false = refl
agree Files true = refl
agree Ranks false = refl
agree Ranks true = refl
agree Diagonal false = refl
agree Diagonal true = refl
agree Colours false = refl
agree Colours true = refl

squares_agree : (m : Mirror) (n : ℕ) (flipped : Bool) (s : ℕ) → n < 8 → s < 64 → turned_square (number_then m n) (flipped_then m flipped) s ≡ turned_square n flipped (square_by m s)
unfolding agrees
squares_agree m n flipped s n_in s_in = eqb-true _ _ (all_below-at 64 _ s (all_below-at 8 _ n (agree m flipped) n_in) s_in)

man_then : (m : Mirror) (flipped : Bool) (man : Man) → turned_man flipped (man_by m man) ≡ turned_man (flipped_then m flipped) man
unfolding flipped_then
man_then m flipped man = grind (arith, man_by-twice)

side_then : (m : Mirror) (flipped : Bool) (side : Side) → turned_side flipped (side_by m side) ≡ turned_side (flipped_then m flipped) side
unfolding flipped_then
side_then m flipped side = grind (arith, side_by-twice)

number_then-small : (m : Mirror) (n : ℕ) → n < 8 → number_then m n < 8
unfolding number_then
number_then-small m n less = grind arith

set_then : (m : Mirror) (n : ℕ) (flipped : Bool) (p r q : Setup) → n < 8 → IsAdmissible p → IsMirrored m p r → IsSetBy n flipped r q → IsSetBy (number_then m n) (flipped_then m flipped) p q
set_then m n flipped p r q less ok first second = record {
  men = λ t t_in.
      ap (map.get q.men) (squares_agree m n flipped t less t_in) ∙ second.men (square_by m t) (square_by-within m t t_in)
      ∙ ap (option_map (turned_man flipped)) (first.men t t_in) ∙ men (map.get p.men t);
  side = second.side ∙ ap (turned_side flipped) first.side ∙ side_then m flipped p.side;
  target = second.target ∙ ap (option_map (turned_square n flipped)) first.target ∙ target p.target refl;
  on_board = second.on_board;
}
  where
    men : (o : Option Man) → option_map (turned_man flipped) (option_map (man_by m) o) ≡ option_map (turned_man (flipped_then m flipped)) o
    men o = grind (arith, man_then)

    target : (o : Option ℕ) → p.target ≡ o → option_map (turned_square n flipped) (option_map (square_by m) o) ≡ option_map (turned_square (number_then m n) (flipped_then m flipped)) o
    target None is = refl
    target (Some t) is = ap Some (sym (squares_agree m n flipped t less (target_within p.men p.side p.target ok.target t is)))

keeps_then : (m : Mirror) (n : ℕ) (p r : Setup) → AreMirrored m p r → KeepsPlay n r.men → KeepsPlay (number_then m n) p.men
unfolding number_then
keeps_then m n p r are (inl none) = inl (no_pawn_by m r.men p.men back.men are.here.on_board none)
  where
    back : IsMirrored m r p
    back = subst (λ x. IsMirrored m x p) (sym (setup_by-only m p r are.mirrored)) (setup_by-back m p are.here.on_board (target_within p.men p.side p.target are.here.target))
keeps_then Files n p r are (inr less) = inr (omega arith)
keeps_then Ranks n p r are (inr less) = inl are.allowed
keeps_then Diagonal n p r are (inr less) = inl are.allowed
keeps_then Colours n p r are (inr less) = inr (omega arith)

-- so are any number of mirrors
pub turn_of_mirrors : (k : ℕ) (p q : Setup) → IsAdmissible p → Reflects k p q → (n : ℕ) × (flipped : Bool) × (n < 8) × KeepsPlay n p.men × IsTurnedBy n flipped p q
turn_of_mirrors zero p q ok same = (0, false, omega arith, inr (omega arith), subst (IsTurnedBy 0 false p) same (record { men = λ t t_in. refl; side = refl; target = stays p.target; on_board = ok.on_board }))
  where
    stays : (o : Option ℕ) → o ≡ option_map (square_of 0) o
    stays o = grind arith
turn_of_mirrors (suc k) p q ok step =
    let are = step.1.1 in
    let rest = turn_of_mirrors k step.0 q are.there step.2 in
    let m = step.1.0 in (
      number_then m rest.0,
      flipped_then m rest.1,
      number_then-small m rest.0 rest.2,
      keeps_then m rest.0 p step.0 are rest.3,
      (turned_set (number_then m rest.0) (flipped_then m rest.1) p q ok.on_board).1 (set_then m rest.0 rest.1 p step.0 q rest.2 ok are.mirrored (turned_sets rest.0 rest.1 step.0 q rest.4)),
    )

pub images_turned : (p q : Setup) → IsAdmissible p → AreImages p q → (n : ℕ) × (flipped : Bool) × (n < 8) × KeepsPlay n p.men × IsTurnedBy n flipped p q
images_turned p q ok images = let m = (images_kept p q ok images).mirrors in turn_of_mirrors m.0 p q ok m.1

-- so an image can be told from the setups that the turns make
pub images_told : (p q : Setup) → IsAdmissible p → (AreImages p q → IsTurn p q) × (IsTurn p q → AreImages p q)
images_told p q ok = (
  λ images. let t = images_turned p q ok images in (t.0, t.2, t.3, by_side t.1 t.0 ((turned_made t.0 t.1 p q ok.on_board).0 t.4)),
  λ turn. elim turn.3 [
    | inl e ↦ turned_is_image turn.0 false p q turn.1 turn.2 ((turned_made turn.0 false p q ok.on_board).1 e)
    | inr e ↦ turned_is_image turn.0 true p q turn.1 turn.2 ((turned_made turn.0 true p q ok.on_board).1 e)
  ],
)
  where
    by_side : (flipped : Bool) (n : ℕ) → q ≡ turned_by n flipped p → (q ≡ turned_by n false p) ⊎ (q ≡ turned_by n true p)
    by_side flipped n e = grind arith
