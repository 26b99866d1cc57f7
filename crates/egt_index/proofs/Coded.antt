-- A position whose white king is on a square of its digit has a least code.
use Rattle.std.proofs.Common.{◌≡◌, ℕ, ◌+◌, ◌-◌, ◌*◌, ◌<◌, ◌≤◌, ◌⊎◌, Bool, true, cond, leb, List, [], ◌∷◌, ◌++◌, map}
use Rattle.std.proofs.Common.{length, arith, refl, sym, ap, ◌∙◌, inl, inr, subst}
use Rattle.egt_index.specs.Prelude.{cases_eq, cases_lt, leb-true, Side, White, Black, Kind, Q, R, B, N, P, K, Man}
use Rattle.egt_index.specs.Prelude.{king_of, side_number, MayStand, Placement, Stands, get-remove_same}
use Rattle.egt_index.specs.Prelude.{get-remove_other, Setup, IsAdmissible, all_below, passes_below, Material}
use Rattle.egt_index.specs.Prelude.{material_of, materials, number_from, number_of, AreDigits, base_of, bases}
use Rattle.egt_index.specs.Prelude.{men_bases, men_in_order, has_pawns, has_target, SpellsBy, HasTargetDigit, placed}
use Rattle.egt_index.specs.Prelude.{men_at, target_digits, Least, AreCounted, Picks, DigitOf, Fits, IsLeastCode}
use Rattle.std.specs.FinMap as placement
use Rattle.egt_index.proofs.MixedDigits.{number_from-lt}
use Rattle.egt_index.proofs.Listing.{apart_of, fits_of}
use Rattle.egt_index.proofs.Counted.{counted_rest, first_is_there}
use Rattle.egt_index.proofs.Coding.{last_digits}
use Rattle.egt_index.proofs.Picking.{picks_all, picks_least}
use Rattle.egt_index.proofs.Past.{past}

pub stands_before : (men : Placement) (q s : ℕ) (man : Man) → Stands (placement.remove men q) s man → Stands men s man
stands_before men q s man stands = grind (arith, cases_eq, get-remove_same, get-remove_other)

pub Fits-rest : (men : Placement) (q : ℕ) → Fits men → Fits (placement.remove men q)
Fits-rest men q fits = grind (arith, stands_before)

-- any man but the white king has a digit wherever it may stand
pub digit_exists : (pawns : Bool) (man : Man) (s : ℕ) → s < 64 → MayStand man s → (man ≡ king_of White → ⊥) → DigitOf pawns man s
digit_exists pawns man s s_in may not = by_kind man.side man.kind refl refl
  where
    same : (a b : Side) (x y : Kind) → man.side ≡ a → man.kind ≡ x → man ≡ record { side = a; kind = x }
    same a b x y e f = ap (λ z. of z man.kind) e ∙ ap (of a) f
      where
        of : Side → Kind → Man
        of side kind = record { side = side; kind = kind }

    by_kind : (side : Side) (kind : Kind) → man.side ≡ side → man.kind ≡ kind → DigitOf pawns man s
    by_kind White K e f = absurd (not (same White White K K e f))
    by_kind Black K e f = subst (λ m. DigitOf pawns m s) (sym (same Black Black K K e f)) (record { digit = s; below = s_in; is = refl })
    by_kind White P e f = subst (λ m. DigitOf pawns m s) (sym (same White White P P e f)) (record { digit = s - 8; below = let h = may f in let low = h.0 in let high = h.1 in omega arith; is = let h = may f in let low = h.0 in omega arith })
    by_kind Black P e f = subst (λ m. DigitOf pawns m s) (sym (same Black Black P P e f)) (record { digit = s - 8; below = let h = may f in let low = h.0 in let high = h.1 in omega arith; is = let h = may f in let low = h.0 in omega arith })
    by_kind White Q e f = subst (λ m. DigitOf pawns m s) (sym (same White White Q Q e f)) (record { digit = s; below = s_in; is = refl })
    by_kind Black Q e f = subst (λ m. DigitOf pawns m s) (sym (same Black Black Q Q e f)) (record { digit = s; below = s_in; is = refl })
    by_kind White R e f = subst (λ m. DigitOf pawns m s) (sym (same White White R R e f)) (record { digit = s; below = s_in; is = refl })
    by_kind Black R e f = subst (λ m. DigitOf pawns m s) (sym (same Black Black R R e f)) (record { digit = s; below = s_in; is = refl })
    by_kind White B e f = subst (λ m. DigitOf pawns m s) (sym (same White White B B e f)) (record { digit = s; below = s_in; is = refl })
    by_kind Black B e f = subst (λ m. DigitOf pawns m s) (sym (same Black Black B B e f)) (record { digit = s; below = s_in; is = refl })
    by_kind White N e f = subst (λ m. DigitOf pawns m s) (sym (same White White N N e f)) (record { digit = s; below = s_in; is = refl })
    by_kind Black N e f = subst (λ m. DigitOf pawns m s) (sym (same Black Black N N e f)) (record { digit = s; below = s_in; is = refl })

-- the digits of all men that are left
pub record Digits (pawns : Bool) (men : Placement) (list : List Man) : Type 0 where
  pub digits : List ℕ
  pub are : AreDigits (map (base_of pawns) list) digits
  pub picks : Picks pawns men list digits

unfoldable pub digits_more : (pawns : Bool) (men : Placement) (man : Man) (list : List Man) (s : ℕ) → s < 64 → Least men man s → DigitOf pawns man s → Digits pawns (placement.remove men s) list → Digits pawns men (man ∷ list)
digits_more pawns men man list s s_in least digit rest = record {
  digits = digit.digit ∷ rest.digits;
  are = (digit.below, rest.are);
  picks = (subst (λ q. q < 64) (sym digit.is) s_in, subst (Least men man) (sym digit.is) least, subst (λ q. Picks pawns (placement.remove men q) list rest.digits) (sym digit.is) rest.picks);
}

pub digits_exist : (pawns : Bool) (men : Placement) (list : List Man) → Fits men → AreCounted men list → Digits pawns men list
digits_exist pawns men [] fits counted = record { digits = []; are = tt; picks = tt }
digits_exist pawns men (man ∷ list) fits counted =
    let first = first_is_there men man list counted in
    digits_more pawns men man list first.0 first.1 first.2
    (digit_exists pawns man first.0 first.1 (fits.pawns first.0 man first.2.stands) (λ king. fits.no_king first.0 (subst (Stands men first.0) king first.2.stands)))
    (digits_exist pawns (placement.remove men first.0) list (Fits-rest men first.0 fits) (counted_rest men man list first.0 first.1 first.2.stands counted))

is_few : ℕ → Bool
is_few c = leb (length (men_in_order (material_of c))) 4

all_few : all_below is_few 36 ≡ true
unfolding all_below is_few material_of materials
all_few = refl

pub few_men : (c : ℕ) → length (men_in_order (material_of c)) ≤ 4
unfolding is_few
few_men c = elim (cases_lt c 36) [
  | inl c_in ↦ leb-true _ _ (passes_below is_few 36 c all_few c_in)
  | inr c_past ↦ let none = ap (λ m. length (men_in_order m)) (past c c_past) in omega arith
]

pub placed_few : (pawns : Bool) (men : List Man) (digits : List ℕ) → length (placed pawns men digits) ≤ length men
placed_few pawns [] digits = omega arith
placed_few pawns (man ∷ men) [] = omega arith
placed_few pawns (man ∷ men) (d ∷ ds) = let rest = placed_few pawns men ds in omega arith

pub number_append : (bs : List ℕ) (ds cs es : List ℕ) (high : ℕ) → AreDigits bs ds → number_from high (bs ++ cs) (ds ++ es) ≡ number_from (number_from high bs ds) cs es
number_append [] [] cs es high are = refl
number_append [] (d ∷ ds) cs es high are = absurd are
number_append (b ∷ bs) [] cs es high are = absurd are
number_append (b ∷ bs) (d ∷ ds) cs es high are = number_append bs ds cs es (high * b + d) are.1

-- the digits behind those of the men, and their bases
abbrev pub last_by : Material → Setup → List ℕ
last_by m p = side_number p.side ∷ target_digits m p.target

abbrev pub ends_by : Material → List ℕ
ends_by m = 2 ∷ cond (has_target m) (2 ∷ []) []

-- digits that are picked make the least code
pub picks_code : (c : ℕ) (p : Setup) (digits : List ℕ) → IsAdmissible p → AreCounted p.men (men_in_order (material_of c)) → HasTargetDigit (material_of c) p.target
    → AreDigits (men_bases (material_of c)) digits → Picks (has_pawns (material_of c)) p.men (men_in_order (material_of c)) digits
    → IsLeastCode c p (number_of (bases (material_of c)) (digits ++ side_number p.side ∷ target_digits (material_of c) p.target))
picks_code c p digits admissible counted target are picks =
    let all = picks_all (has_pawns m) p.men (men_in_order m) digits admissible.on_board counted are picks in
    record {
      spells = record {
        admissible = admissible;
        digits = digits;
        are_digits = are;
        apart = record { few = let few = few_men c in let le = placed_few (has_pawns m) (men_in_order m) digits in omega arith; apart = fits_of (men_at m digits) all.1 };
        men = all.0;
        target = target;
        number = refl;
      };
      least = λ other s. least other s (picks_least (has_pawns m) p.men (men_in_order m) digits s.digits are s.are_digits picks s.men (apart_of (men_at m s.digits) s.apart.apart));
    }
  where
    m : Material
    m = material_of c

    are_ends : AreDigits (ends_by m) (last_by m p)
    are_ends = last_digits (has_target m) p.side p.target

    least : (other : ℕ) (s : SpellsBy m other p) → (digits ≡ s.digits) ⊎ ((high : ℕ) → number_from high (men_bases m) digits < number_from high (men_bases m) s.digits) → number_of (bases m) (digits ++ last_by m p) ≤ other
    least other s (inl same) = let is = ap (λ ds. number_of (bases m) (ds ++ last_by m p)) same ∙ sym s.number in omega arith
    least other s (inr less) =
        let here = number_append (men_bases m) digits (ends_by m) (last_by m p) 0 are in
        let there = number_append (men_bases m) s.digits (ends_by m) (last_by m p) 0 s.are_digits in
        let lt = number_from-lt (ends_by m) (last_by m p) (last_by m p) (number_from 0 (men_bases m) digits) (number_from 0 (men_bases m) s.digits) are_ends are_ends (less 0) in
        let is = s.number in omega arith
