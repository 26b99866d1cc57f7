-- The images of a position, what they keep, and the way back from each.
use Rattle.std.proofs.Common.{◌≡◌, ℕ, zero, suc, ◌<◌, ◌↔◌, ◌⊎◌, ◌/◌, ◌%◌, ◌==◌, Bool, true, false, Option, Some, arith}
use Rattle.std.proofs.Common.{refl, sym, ap, ◌∙◌, subst, inl, inr}
use Rattle.egt_board.specs.Prelude.{option_map, eqb-true, Mirror, Files, Ranks, Diagonal, Colours, Side, Man}
use Rattle.egt_board.specs.Prelude.{other_side, Placement, HasNoPawn, Setup, IsAdmissible, FitsTarget, IsSettled}
use Rattle.egt_board.specs.Prelude.{IsMirrored, square_by, side_by, man_by, Allows, square_by-within, square_by-twice}
use Rattle.egt_board.specs.Prelude.{ShowsMen, OnBoard, man_by-twice, no_pawn_by, target_between, square_if, square_of}
use Rattle.egt_board.specs.Prelude.{IsKeepingSides, KeepsPlay, IsCarried, IsImage, IsTurnOf, Comes, AreImages, Reflects}
use Rattle.egt_board.specs.Prelude.{count_of, SameMen, ExchangedMen, men_by, setup_by, setup_if}
use Rattle.std.specs.FinMap as map
use Rattle.egt_board.proofs.MirroredPosition.{admissible_by}
use Rattle.egt_board.proofs.Settling.{ready_by}
use Rattle.egt_board.proofs.Reflected.{men_by-shows, men_by-on_board, men_by-few, same_on_board, setup_by-is}
use Rattle.egt_board.proofs.Reflected.{setup_by-only, setup_by-back}
use Rattle.egt_board.proofs.Tallies.{count_by}
use Rattle.egt_board.proofs.Sides.{side_twice}

-- one step, and one after another
pub images_by_turn : (p q : Setup) → IsTurnOf p q → AreImages p q
images_by_turn p q turn = (1, (q, turn, refl))

pub images_on : (p q r : Setup) → AreImages p q → AreImages q r → AreImages p r
images_on p q r first second = go first.0 p first.1
  where
    go : (n : ℕ) (p : Setup) → Comes n p q → AreImages p r
    go zero p same = subst (λ (x : Setup). AreImages x r) (sym same) second
    go (suc n) p step = let rest = go n step.0 step.2 in (suc rest.0, (step.0, step.1, rest.1))

reflects_on : (p q r : Setup) → (n : ℕ) × Reflects n p q → (n : ℕ) × Reflects n q r → (n : ℕ) × Reflects n p r
reflects_on p q r first second = go first.0 p first.1
  where
    go : (n : ℕ) (p : Setup) → Reflects n p q → (k : ℕ) × Reflects k p r
    go zero p same = subst (λ (x : Setup). (k : ℕ) × Reflects k x r) (sym same) second
    go (suc n) p step = let rest = go n step.0 step.2 in (suc rest.0, (step.0, step.1, rest.1))

-- what an image keeps of a position
pub record Kept (p q : Setup) : Type 0 where
  pub admissible : IsAdmissible q
  pub settled : IsSettled p ↔ IsSettled q
  pub men : SameMen p q ⊎ ExchangedMen p q
  pub back : AreImages q p
  pub no_pawn : HasNoPawn p.men → HasNoPawn q.men
  pub mirrors : (n : ℕ) × Reflects n p q

pub Kept-same : (p : Setup) → IsAdmissible p → Kept p p
Kept-same p ok = grind arith

pub Kept-on : (p q r : Setup) → Kept p q → Kept q r → Kept p r
Kept-on p q r first second = record {
  admissible = second.admissible;
  settled = (λ h. second.settled.0 (first.settled.0 h), λ h. first.settled.1 (second.settled.1 h));
  men = both first.men second.men;
  back = images_on r q p second.back first.back;
  no_pawn = λ none. second.no_pawn (first.no_pawn none);
  mirrors = reflects_on p q r first.mirrors second.mirrors;
}
  where
    both : SameMen p q ⊎ ExchangedMen p q → SameMen q r ⊎ ExchangedMen q r → SameMen p r ⊎ ExchangedMen p r
    both (inl h) (inl k) = inl (record { men = λ man. k.men man ∙ h.men man; side = k.side ∙ h.side })
    both (inl h) (inr k) = inr (record { men = λ man. k.men man ∙ h.men man; side = k.side ∙ ap other_side h.side })
    both (inr h) (inl k) = inr (record { men = λ man. k.men (man_by Colours man) ∙ h.men man; side = k.side ∙ h.side })
    both (inr h) (inr k) = inl (record {
      men = λ man. sym (ap (count_of r.men) (man_by-twice Colours man)) ∙ k.men (man_by Colours man) ∙ h.men man;
      side = k.side ∙ ap other_side h.side ∙ side_twice p.side;
    })

-- a mirror that keeps sides is a symmetry
man_by-same : (m : Mirror) → IsKeepingSides m → (man : Man) → man_by m man ≡ man
man_by-same m keeps man = grind arith

side_by-same : (m : Mirror) → IsKeepingSides m → (side : Side) → side_by m side ≡ side
side_by-same m keeps side = grind arith

pub carried_of : (m : Mirror) (p q : Setup) → IsKeepingSides m → IsMirrored m p q → IsCarried (square_by m) p q
carried_of m p q keeps is = grind (arith, side_by-same, man_by-same)

-- so it is one step to an image
turn_of : (m : Mirror) (p q : Setup) → Allows m p.men → IsMirrored m p q → IsTurnOf p q
turn_of Files p q allows is = inl (1, omega arith, inr (omega arith), carried_of Files p q tt is)
turn_of Ranks p q allows is = inl (2, omega arith, inl allows, carried_of Ranks p q tt is)
turn_of Diagonal p q allows is = inl (4, omega arith, inl allows, carried_of Diagonal p q tt is)
turn_of Colours p q allows is = inr is

pub target_within : (men : Placement) (mover : Side) (target : Option ℕ) → FitsTarget men mover target → (t : ℕ) → target ≡ Some t → t < 64
target_within men mover target fits t is = grind (arith, target_between)

allows_by : (m : Mirror) (men men' : Placement) → (HasNoPawn men → HasNoPawn men') → Allows m men → Allows m men'
allows_by m men men' none allows = grind arith

tallies_by : (m : Mirror) (p : Setup) → SameMen p (setup_by m p) ⊎ ExchangedMen p (setup_by m p)
tallies_by m p = grind (arith, count_by)

-- what a mirror keeps
pub setup_by-kept : (m : Mirror) (p : Setup) → IsAdmissible p → Allows m p.men → Kept p (setup_by m p)
setup_by-kept m p ok allows = record {
  admissible = ok';
  settled = (
    ready_by m p.men (men_by m p.men) p.side p.target allows shows ok.on_board ok.target,
    λ h. subst IsSettled (sym (setup_by-only m (setup_by m p) p back))
        (ready_by m (men_by m p.men) (men_by m (men_by m p.men)) (side_by m p.side) (option_map (square_by m) p.target) allows' (men_by-shows m (men_by m p.men)) ok'.on_board ok'.target h),
  );
  men = tallies_by m p;
  back = images_by_turn (setup_by m p) p (turn_of m (setup_by m p) p allows' back);
  no_pawn = none;
  mirrors = (1, (setup_by m p, (m, record { here = ok; there = ok'; mirrored = setup_by-is m p; allowed = allows }), refl));
}
  where
    shows : ShowsMen m p.men (men_by m p.men)
    shows = men_by-shows m p.men

    none : HasNoPawn p.men → HasNoPawn (men_by m p.men)
    none = no_pawn_by m p.men (men_by m p.men) (men_by-shows m p.men) (men_by-on_board m p.men)

    allows' : Allows m (men_by m p.men)
    allows' = allows_by m p.men (men_by m p.men) none allows

    ok' : IsAdmissible (setup_by m p)
    ok' = admissible_by m p (men_by m p.men) _ ok allows (men_by-shows m p.men) (men_by-on_board m p.men) (men_by-few m p.men) refl

    back : IsMirrored m (setup_by m p) p
    back = setup_by-back m p ok.on_board (target_within p.men p.side p.target ok.target)

pub setup_if-is : (turns : Bool) (m : Mirror) (p : Setup) → IsKeepingSides m → OnBoard p.men → IsCarried (square_if turns m) p (setup_if turns m p)
unfolding setup_if
setup_if-is true m p keeps ok = carried_of m p (setup_by m p) keeps (setup_by-is m p)
setup_if-is false m p keeps ok = record { men = λ t t_in. refl; side = refl; target = same p.target; on_board = ok }
  where
    same : (o : Option ℕ) → o ≡ option_map (λ s. s) o
    same o = grind arith

setup_if-kept : (turns : Bool) (m : Mirror) (p : Setup) → IsAdmissible p → (turns ≡ true → Allows m p.men) → Kept p (setup_if turns m p)
unfolding setup_if
setup_if-kept true m p ok allows = setup_by-kept m p ok (allows refl)
setup_if-kept false m p ok allows = Kept-same p ok

-- carried twice
pub carried_on : (f g : ℕ → ℕ) (p q r : Setup) → ((t : ℕ) → t < 64 → f t < 64) → IsCarried f p q → IsCarried g q r → IsCarried (λ s. g (f s)) p r
carried_on f g p q r f_in first second = record {
  men = λ t t_in. second.men (f t) (f_in t t_in) ∙ first.men t t_in;
  side = second.side ∙ first.side;
  target = second.target ∙ ap (option_map g) first.target ∙ twice p.target;
  on_board = second.on_board;
}
  where
    twice : (o : Option ℕ) → option_map g (option_map f o) ≡ option_map (λ s. g (f s)) o
    twice o = grind arith

-- each square is where f puts another
unfoldable pub Onto : (ℕ → ℕ) → Type 0
Onto f = (u : ℕ) → u < 64 → (t : ℕ) × (t < 64) × (f t ≡ u)

pub carried_only : (f : ℕ → ℕ) (p q r : Setup) → Onto f → IsCarried f p q → IsCarried f p r → q ≡ r
unfolding Onto
carried_only f p q r onto first second = λ i. record { men = men i; side = (first.side ∙ sym second.side) i; target = (first.target ∙ sym second.target) i }
  where
    men : q.men ≡ r.men
    men = same_on_board q.men r.men first.on_board second.on_board (λ u u_in.
        let from = onto u u_in in
        subst (λ x. map.get q.men x ≡ map.get r.men x) from.2 (first.men from.0 from.1 ∙ sym (second.men from.0 from.1)))

pub square_if-within : (turns : Bool) (m : Mirror) (s : ℕ) → s < 64 → square_if turns m s < 64
square_if-within h0 m s s_in = grind (arith, square_by-within)

pub square_if-twice : (turns : Bool) (m : Mirror) (s : ℕ) → s < 64 → square_if turns m (square_if turns m s) ≡ s
square_if-twice h0 m s s_in = grind (arith, square_by-twice)

pub onto_three : (a b c : Bool) (l m n : Mirror) → Onto (λ s. square_if c n (square_if b m (square_if a l s)))
unfolding Onto
onto_three a b c l m n = λ u u_in.
    let v = square_if-within c n u u_in in
    let w = square_if-within b m (square_if c n u) v in (
      square_if a l (square_if b m (square_if c n u)),
      square_if-within a l _ w,
      ap (λ s. square_if c n (square_if b m s)) (square_if-twice a l _ w) ∙ ap (square_if c n) (square_if-twice b m _ v) ∙ square_if-twice c n u u_in,
    )

-- the image under a symmetry, mirror by mirror
pub image_kept : (n : ℕ) (p q : Setup) → IsAdmissible p → KeepsPlay n p.men → IsImage n p q → Kept p q
image_kept n p q ok keeps is =
    subst (Kept p) (sym (carried_only (square_of n) p q p3 (onto_three (n % 2 == 1) (n / 2 % 2 == 1) (n / 4 == 1) Files Ranks Diagonal) is is3)) kept3
  where
    p1 : Setup
    p1 = setup_if (n % 2 == 1) Files p

    kept1 : Kept p p1
    kept1 = setup_if-kept (n % 2 == 1) Files p ok (λ _. tt)

    p2 : Setup
    p2 = setup_if (n / 2 % 2 == 1) Ranks p1

    kept2 : Kept p p2
    kept2 = Kept-on p p1 p2 kept1 (setup_if-kept (n / 2 % 2 == 1) Ranks p1 kept1.admissible (λ turns. elim keeps [
      | inl none ↦ kept1.no_pawn none
      | inr less ↦ let e = eqb-true (n / 2 % 2) 1 turns in absurd (omega arith)
    ]))

    p3 : Setup
    p3 = setup_if (n / 4 == 1) Diagonal p2

    kept3 : Kept p p3
    kept3 = Kept-on p p2 p3 kept2 (setup_if-kept (n / 4 == 1) Diagonal p2 kept2.admissible (λ turns. elim keeps [
      | inl none ↦ kept2.no_pawn none
      | inr less ↦ let e = eqb-true (n / 4) 1 turns in absurd (omega arith)
    ]))

    is2 : IsCarried (λ s. square_if (n / 2 % 2 == 1) Ranks (square_if (n % 2 == 1) Files s)) p p2
    is2 = carried_on (square_if (n % 2 == 1) Files) (square_if (n / 2 % 2 == 1) Ranks) p p1 p2 (square_if-within (n % 2 == 1) Files) (setup_if-is (n % 2 == 1) Files p tt ok.on_board) (setup_if-is (n / 2 % 2 == 1) Ranks p1 tt kept1.admissible.on_board)

    is3 : IsImage n p p3
    is3 = carried_on _ (square_if (n / 4 == 1) Diagonal) p p2 p3 (λ t t_in. square_if-within (n / 2 % 2 == 1) Ranks _ (square_if-within (n % 2 == 1) Files t t_in)) is2 (setup_if-is (n / 4 == 1) Diagonal p2 tt kept2.admissible.on_board)

pub turn_kept : (p q : Setup) → IsAdmissible p → IsTurnOf p q → Kept p q
turn_kept p q ok turn = elim turn [
  | inl h ↦ image_kept h.0 p q ok h.2 h.3
  | inr is ↦ subst (Kept p) (sym (setup_by-only Colours p q is)) (setup_by-kept Colours p ok tt)
]

pub images_kept : (p q : Setup) → IsAdmissible p → AreImages p q → Kept p q
images_kept p q ok images = go images.0 p ok images.1
  where
    go : (n : ℕ) (p : Setup) → IsAdmissible p → Comes n p q → Kept p q
    go zero p ok same = subst (Kept p) same (Kept-same p ok)
    go (suc n) p ok step =
        let first = turn_kept p step.0 ok step.1 in
        Kept-on p step.0 q first (go n step.0 first.admissible step.2)
