-- The code of each image of a settled position, in the colours of the class.
use Rattle.std.proofs.Common.{◌≡◌, ℕ, ◌<◌, ◌≤◌, ◌⊎◌, ◌&&◌, ◌||◌, not, Bool, true, false, cond, ltb, eqb, Option, Some}
use Rattle.std.proofs.Common.{None, IfSome, arith, refl, sym, ap, ◌∙◌, inl, inr, subst}
use Rattle.egt_index.specs.Prelude.{is_some, cases_lt, lt-ltb, and_from, eqb-true, Side, White, Black, P, Man, Colours}
use Rattle.egt_index.specs.Prelude.{other_side, man_by, pawn_of, ahead, HasPawnBeside, HasNoPawn, Placement, Stands}
use Rattle.egt_index.specs.Prelude.{Setup, IsAdmissible, IsSettled, SettlesTo, FitsTarget, IsTarget, KeepsPlay, SameMen}
use Rattle.egt_index.specs.Prelude.{ExchangedMen, count_of, IsTurnedBy, turned_side, all_below, passes_below}
use Rattle.egt_index.specs.Prelude.{material_of, materials, men_in, IsOf, men_in_order, has_pawns, has_target}
use Rattle.egt_index.specs.Prelude.{HasTargetDigit, AreCounted, Facts, HasStand, Stood, list_of, Stand}
use Rattle.egt_index.proofs.Counted.{counted_some}
use Rattle.egt_index.proofs.Tallied.{in_class}
use Rattle.egt_index.proofs.Tested.{implied}
use Rattle.egt_index.proofs.Past.{past}

-- one of the two, and not both
abbrev pub differ : Bool → Bool → Bool
differ flipped false = flipped
differ flipped true = not flipped

side_stays : (side : Side) → other_side side ≡ side → ⊥
side_stays side e = grind arith

abbrev side_in : Bool → Side → Side
side_in flipped side = cond flipped (other_side side) side

turned_in : (flipped : Bool) (side : Side) → side_in flipped (other_side side) ≡ side_in (not flipped) side
turned_in flipped side = grind arith

twice : (man : Man) → man_by Colours (man_by Colours man) ≡ man
twice man = grind arith

-- a turn keeps the class, and flips what it flips
pub turned_class : Facts → (c : ℕ) (flipped turns : Bool) (n : ℕ) (p q : Setup) → IsAdmissible p → n < 8 → KeepsPlay n p.men → IsTurnedBy n turns p q → IsOf c flipped p → IsOf c (differ flipped turns) q
turned_class facts c flipped turns n p q ok n_in keeps turned is_of = of_men turns (facts.set n turns p q ok turned).side (facts.men p q ok (facts.images p q n turns ok n_in keeps turned))
  where
    of_men : (turns : Bool) → q.side ≡ turned_side turns p.side → SameMen p q ⊎ ExchangedMen p q → IsOf c (differ flipped turns) q
    of_men false side (inl same) = record { men = λ man. same.men man ∙ is_of.men man }
    of_men false side (inr exchanged) = absurd (side_stays p.side (sym exchanged.side ∙ side))
    of_men true side (inl same) = absurd (side_stays p.side (sym side ∙ same.side))
    of_men true side (inr exchanged) = record {
      men = λ man. sym (ap (count_of q.men) (twice man)) ∙ exchanged.men (man_by Colours man) ∙ is_of.men (man_by Colours man) ∙ ap (λ side. men_in c side man.kind) (turned_in flipped man.side);
    }

pub counted_of : (c : ℕ) (p : Setup) → IsOf c false p → AreCounted p.men (men_in_order (material_of c))
counted_of c p is_of man = is_of.men man ∙ sym (in_class c man)

abbrev has_right_target : ℕ → Bool
has_right_target c = not (ltb 0 (men_in c White P) && ltb 0 (men_in c Black P)) || has_target (material_of c)

abbrev has_right_pawns : ℕ → Bool
has_right_pawns c = has_pawns (material_of c) || (eqb (men_in c White P) 0 && eqb (men_in c Black P) 0)

all_right_targets : all_below has_right_target 36 ≡ true
unfolding all_below material_of materials men_in
all_right_targets = refl

all_right_pawns : all_below has_right_pawns 36 ≡ true
unfolding all_below material_of materials men_in
all_right_pawns = refl

none_past : (c : ℕ) (side : Side) → 36 ≤ c → men_in c side P ≡ 0
unfolding men_in
none_past c side le = grind (arith, past)

-- where both sides have a pawn there may be a target
target_there : (c : ℕ) → 1 ≤ men_in c White P → 1 ≤ men_in c Black P → has_target (material_of c) ≡ true
target_there c white black = elim (cases_lt c 36) [
  | inl c_in ↦ implied (ltb 0 (men_in c White P) && ltb 0 (men_in c Black P)) _ (and_from _ _ (lt-ltb 0 (men_in c White P) (omega arith)) (lt-ltb 0 (men_in c Black P) (omega arith)))
      (passes_below has_right_target 36 c all_right_targets c_in)
  | inr c_past ↦ absurd (let none = none_past c White c_past in omega arith)
]

-- a settled position has a target only where its class has a digit for it
pub target_has_digit : (c : ℕ) (p : Setup) → IsAdmissible p → IsSettled p → IsOf c false p → HasTargetDigit (material_of c) p.target
target_has_digit c p ok settled is_of = of_target p.target refl
  where
    pawns : (t : ℕ) → p.target ≡ Some t → (1 ≤ men_in c White P) × (1 ≤ men_in c Black P)
    pawns t is = of_sides p.side refl
      where
        one : (s : ℕ) (side : Side) → Stands p.men s (pawn_of side) → 1 ≤ men_in c side P
        one s side stands = let some = counted_some p.men (pawn_of side) s (ok.on_board s (pawn_of side) stands) stands in let are = is_of.men (pawn_of side) in omega arith

        ready : HasPawnBeside p.men p.side (ahead (other_side p.side) t)
        ready = subst (λ o. IfSome o (λ t. HasPawnBeside p.men p.side (ahead (other_side p.side) t))) is settled

        passed : IsTarget p.men p.side t
        passed = subst (λ o. FitsTarget p.men p.side o) is ok.target

        of_sides : (side : Side) → p.side ≡ side → (1 ≤ men_in c White P) × (1 ≤ men_in c Black P)
        of_sides White e = (one ready.square White (subst (λ s. Stands p.men ready.square (pawn_of s)) e ready.stands), one (ahead (other_side p.side) t) Black (subst (λ s. Stands p.men (ahead (other_side p.side) t) (pawn_of (other_side s))) e passed.advanced))
        of_sides Black e = (one (ahead (other_side p.side) t) White (subst (λ s. Stands p.men (ahead (other_side p.side) t) (pawn_of (other_side s))) e passed.advanced), one ready.square Black (subst (λ s. Stands p.men ready.square (pawn_of s)) e ready.stands))

    of_target : (o : Option ℕ) → p.target ≡ o → HasTargetDigit (material_of c) p.target
    of_target None is = inr is
    of_target (Some t) is = let both = pawns t is in inl (target_there c both.0 both.1)

-- a class without pawns has positions without pawns
pub no_pawns : (c : ℕ) (flipped : Bool) (p : Setup) → IsAdmissible p → IsOf c flipped p → has_pawns (material_of c) ≡ false → HasNoPawn p.men
no_pawns c flipped p ok is_of none s man stands pawn =
    let some = counted_some p.men man s (ok.on_board s man stands) stands in
    let are = is_of.men man in
    let zero_of = no_man (side_in flipped man.side) in
    let kind = ap (men_in c (side_in flipped man.side)) pawn in omega arith
  where
    no_man : (side : Side) → men_in c side P ≡ 0
    no_man side = elim (cases_lt c 36) [
      | inl c_in ↦ of_side side (first_false (has_pawns (material_of c)) _ none (passes_below has_right_pawns 36 c all_right_pawns c_in))
      | inr c_past ↦ none_past c side c_past
    ]
      where
        first_false : (a b : Bool) → a ≡ false → (a || b) ≡ true → b ≡ true
        first_false a b h e = grind arith

        of_side : (side : Side) → (eqb (men_in c White P) 0 && eqb (men_in c Black P) 0) ≡ true → men_in c side P ≡ 0
        of_side side both = grind (arith, eqb-true)

-- a settled form is of the position's class
pub settled_class : Facts → (c : ℕ) (flipped : Bool) (p q : Setup) → SettlesTo p q → IsOf c flipped p → IsOf c flipped q
settled_class facts c flipped p q settles is_of = record { men = λ man. ap (λ m. count_of m man) (facts.settled_men p q settles) ∙ is_of.men man }

pub settled_side : (p q : Setup) → SettlesTo p q → q.side ≡ p.side
settled_side p q h = grind arith

-- the men of what a position settles to stand where they stood
pub settled_stand : Facts → (c : ℕ) (flipped : Bool) (p q : Setup) (stand : Stand) (side : Side) (targeted : Bool) → IsAdmissible p → IsOf c flipped p → Stood c flipped p.men (list_of stand) → side ≡ p.side → is_some q.target ≡ targeted
    → SettlesTo p q → HasStand c flipped stand side targeted q
settled_stand facts c flipped p q stand side targeted ok is_of stood side_is target settles = record {
  admissible = facts.settled_admissible p q ok settles;
  settled = facts.is_settled p q settles;
  is_of = settled_class facts c flipped p q settles is_of;
  stood = subst (λ (men : Placement). Stood c flipped men (list_of stand)) (sym (facts.settled_men p q settles)) stood;
  side_is = settled_side p q settles ∙ sym side_is;
  target_is = target;
}
