-- The position that a code spells is of its class, in its colours.
use Rattle.std.proofs.Common.{eqb, ◌/◌, ◌%◌, ◌≡◌, ℕ, ◌<◌, ◌||◌, not, Bool, true, false, cond, ltb, Some, List, [], ◌∷◌}
use Rattle.std.proofs.Common.{map, arith, refl, sym, ap, ◌∙◌, inl, inr, subst}
use Rattle.egt_index.specs.Prelude.{cases_eq, cases_lt, ltb-true, Black, count_of, pawn_of, Material, base_of, square_of}
use Rattle.egt_index.specs.Prelude.{false≢true, Side, IsAdmissible, passes_below, material_of, men_in_order, IsInColours}
use Rattle.egt_index.specs.Prelude.{White, other_side, HasNoPawn, all_below, materials, AreDigits, has_pawns, AreCounted}
use Rattle.egt_index.specs.Prelude.{P, Man, men_of, Stands, Setup, men_in, IsOf, Spells, placed, men_at, Facts, IsTurn}
use Rattle.std.specs.FinMap as placement
use Rattle.egt_index.proofs.Listing.{AreApart, apart_of, get_here, get_later, get_none, remove_first}
use Rattle.egt_index.proofs.Counted.{removed, counted_none, count_cons, least_below}
use Rattle.egt_index.proofs.Tallied.{in_class}
use Rattle.egt_index.proofs.ImageCodes.{differ, turned_class}
use Rattle.egt_index.proofs.Tested.{implied, one_of}
use Rattle.egt_index.proofs.Past.{past}

no_man : (man : Man) (t : ℕ) → Stands (men_of []) t man → ⊥
no_man man t stands = let none = sym (get_none t) ∙ stands in cc

-- the men of a list are counted as often as they stand in it
pub placed_counted : (pawns : Bool) (list : List Man) (digits : List ℕ) → AreDigits (map (base_of pawns) list) digits → AreApart (placed pawns list digits)
    → ((s : ℕ) (man : Man) → Stands (men_of (placed pawns list digits)) s man → s < 64) → AreCounted (men_of (placed pawns list digits)) list
placed_counted pawns [] digits are apart on_board man = counted_none (men_of []) man (λ t t_in. no_man man t)
placed_counted pawns (man ∷ list) [] are apart on_board other = absurd are
placed_counted pawns (man ∷ list) (d ∷ ds) are apart on_board other =
    let s_in = on_board (square_of pawns man d) man (get_here (man, square_of pawns man d) (placed pawns list ds) (square_of pawns man d) refl) in
    let less = removed (men_of ((man, square_of pawns man d) ∷ placed pawns list ds)) man other (square_of pawns man d) s_in (get_here (man, square_of pawns man d) (placed pawns list ds) (square_of pawns man d) refl) in
    let rest_is = ap (λ m. count_of m other) (remove_first (man, square_of pawns man d) (placed pawns list ds) apart.0) in
    let rest = placed_counted pawns list ds are.1 apart.1 (λ s it stands. on_board s it (later s it stands)) other in
    let more = count_cons man other list in omega arith
  where
    later : (s : ℕ) (it : Man) → Stands (men_of (placed pawns list ds)) s it → Stands (men_of ((man, square_of pawns man d) ∷ placed pawns list ds)) s it
    later s it stands = elim (cases_eq s (square_of pawns man d)) [
      | inl same ↦ absurd (let free = sym apart.0 ∙ subst (λ q. placement.get (men_of (placed pawns list ds)) q ≡ Some it) same stands in cc)
      | inr other ↦ get_later (man, square_of pawns man d) (placed pawns list ds) s other ∙ stands
    ]

pub spells_class : (c code : ℕ) (p : Setup) → Spells c code p → IsOf c false p
spells_class c code p s = record {
  men = λ man. ap (λ m. count_of m man) s.men ∙ placed_counted (has_pawns m) (men_in_order m) s.digits s.are_digits (apart_of (men_at m s.digits) s.apart.apart) (λ t it stands. s.admissible.on_board t it (subst (λ x. Stands x t it) (sym s.men) stands)) man
      ∙ in_class c man;
}
  where
    m : Material
    m = material_of c

abbrev has_pawn_in : ℕ → Bool
has_pawn_in c = not (has_pawns (material_of c)) || (ltb 0 (men_in c White P) || ltb 0 (men_in c Black P))

all_have : all_below has_pawn_in 36 ≡ true
unfolding all_below material_of materials men_in
all_have = refl

some_side : (c : ℕ) → has_pawns (material_of c) ≡ true → (side : Side) × (0 < men_in c side P)
some_side c has = elim (cases_lt c 36) [
  | inl c_in ↦ elim (one_of _ _ (implied (has_pawns (material_of c)) _ has (passes_below has_pawn_in 36 c all_have c_in))) [
    | inl h ↦ (White, ltb-true 0 (men_in c White P) h)
    | inr h ↦ (Black, ltb-true 0 (men_in c Black P) h)
  ]
  | inr c_past ↦ absurd (false≢true (sym (ap has_pawns (past c c_past)) ∙ has))
]

side_in : Bool → Side → Side
side_in flipped side = cond flipped (other_side side) side

side_back : (flipped : Bool) (side : Side) → side_in flipped (side_in flipped side) ≡ side
unfolding side_in
side_back flipped side = grind arith

-- a class with pawns has no position without
pub pawns_there : (c : ℕ) (flipped : Bool) (p : Setup) → IsOf c flipped p → has_pawns (material_of c) ≡ true → HasNoPawn p.men → ⊥
unfolding side_in
pawns_there c flipped p is_of has none =
    let some = some_side c has in
    let man : Man = pawn_of (side_in flipped some.0) in
    let count = is_of.men man in
    let side = ap (λ s. men_in c s P) (side_back flipped some.0) in
    let lt = some.1 in
    elim (least_below p.men man 64) [
      | inl found ↦ none found.0 man found.2.stands refl
      | inr not ↦ let zero_of = counted_none p.men man not in absurd (omega arith)
    ]

same_flip : (flipped turns : Bool) → turns ≡ flipped → differ flipped turns ≡ false
same_flip flipped turns e = grind arith

other_flip : (flipped turns : Bool) → (turns ≡ flipped → ⊥) → differ flipped turns ≡ true
other_flip flipped turns not = grind arith

-- a turn's image is of the class in its colours exactly where the turn is in colours
pub image_in_colours : Facts → (c : ℕ) (flipped : Bool) (p q : Setup) (t : ℕ) → c < 36 → IsAdmissible p → IsOf c flipped p → IsTurn t p q → IsInColours c flipped (eqb (t / 8) 1) → IsOf c false q
image_in_colours facts c flipped p q t c_in ok is_of turn colours =
    let is = turned_class facts c flipped (eqb (t / 8) 1) (t % 8) p q ok (omega arith) turn.0 turn.1 is_of in
    elim colours [
      | inl equal ↦ facts.both_flips q c (differ flipped (eqb (t / 8) 1)) false c_in equal is
      | inr same ↦ subst (λ f. IsOf c f q) (same_flip flipped (eqb (t / 8) 1) same) is
    ]

pub image_in_others : Facts → (c : ℕ) (flipped : Bool) (p q : Setup) (t code : ℕ) → c < 36 → IsAdmissible p → IsOf c flipped p → IsTurn t p q → (IsInColours c flipped (eqb (t / 8) 1) → ⊥) → Spells c code q → ⊥
image_in_others facts c flipped p q t code c_in ok is_of turn not spells =
    let is = turned_class facts c flipped (eqb (t / 8) 1) (t % 8) p q ok (omega arith) turn.0 turn.1 is_of in
    elim (facts.one_flip q c true false c_in (subst (λ f. IsOf c f q) (other_flip flipped (eqb (t / 8) 1) (λ same. not (inr same))) is) (spells_class c code q spells)) [
      | inl e ↦ false≢true (sym e)
      | inr equal ↦ not (inl equal)
    ]
