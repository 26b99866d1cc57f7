-- Shelves that follow one another have the first man on the squares of digits that do.
use Rattle.std.proofs.Common.{◌≡◌, ◌≢◌, ◌≤◌, ℕ, ◌+◌, ◌-◌, ◌*◌, ◌<◌, Bool, true, false, if◌then◌else◌, List, [], ◌∷◌}
use Rattle.std.proofs.Common.{map, arith, refl, sym, ap, ◌∙◌, inl, inr, subst}
use Rattle.egt_blocks.specs.Prelude.{cases_lt, king_of, side_number, MayStand, rank_of, Kind, Q, R, B, N, P, K, Man}
use Rattle.egt_blocks.specs.Prelude.{Side, White, Black, Material, material_of, placed, square_by_digit, square_of}
use Rattle.egt_blocks.specs.Prelude.{AreDigits, number_from, number_of, code_of, half_of, places, kind_digits}
use Rattle.egt_blocks.specs.Prelude.{kind_less, IsShelfOf, IsWithin, number_in, stand_with, base_by, base_of, has_pawns}
use Rattle.egt_blocks.specs.Prelude.{has_target, men_bases, SpellsMen, TellsMen, list_of, ShelfMen, code_high, code_low}
use Rattle.egt_blocks.specs.Prelude.{code_plain, of_targets, a_pawn_each, one_pawn_each, men_on, AreShelvesOf}
use Rattle.egt_blocks.proofs.ShelfRead.{bit_few, bit_of, half_is, places_is, side_few}
use Rattle.egt_board.proofs.Parts.{heads, tails}

-- ---- digits of men but the white king

base_kind : (pawns : Bool) (side : Side) (kind : Kind) → ◌≢◌ {A = Man} (record { side = side; kind = kind }) (king_of White) → base_by pawns side kind ≡ kind_digits kind
base_kind pawns side kind other = grind arith

square_kind : (pawns : Bool) (side : Side) (kind : Kind) (digit : ℕ) → ◌≢◌ {A = Man} (record { side = side; kind = kind }) (king_of White) → square_by_digit pawns side kind digit ≡ digit + kind_less kind
square_kind pawns side kind digit other = grind arith

squares : {a b : Man × ℕ} → a ≡ b → a.1 ≡ b.1
squares e = ap (λ (k : Man × ℕ). k.1) e

abbrev four : (one last : Man) → List Man
four one last = king_of White ∷ king_of Black ∷ one ∷ last ∷ []

abbrev on_squares : (one last : Man) (w b o l : ℕ) → List (Man × ℕ)
on_squares one last w b o l = (king_of White, w) ∷ (king_of Black, b) ∷ (one, o) ∷ (last, l) ∷ []

-- the men in this order, by digits
record SpellsIn (pawns : Bool) (order : List Man) (number : ℕ) (list : List (Man × ℕ)) : Type 0 where
  pub digits : List ℕ
  pub are : AreDigits (map (base_of pawns) order) digits
  pub list_is : list ≡ placed pawns order digits
  pub number_is : number ≡ number_of (map (base_of pawns) order) digits

module _ (pawns : Bool) (one last : Man) (one_other : one ≢ king_of White) (last_other : last ≢ king_of White) (w b l d : ℕ) (d_in : d < kind_digits one.kind) where
  one_base : base_of pawns one ≡ kind_digits one.kind
  one_base = base_kind pawns one.side one.kind one_other

  last_base : base_of pawns last ≡ kind_digits last.kind
  last_base = base_kind pawns last.side last.kind last_other

  moved_up : (number : ℕ) → SpellsIn pawns (four one last) number (on_squares one last w b (kind_less one.kind) l) → SpellsIn pawns (four one last) (number + d * kind_digits last.kind) (on_squares one last w b (d + kind_less one.kind) l)
  moved_up number spells = go spells.digits spells.are spells.list_is spells.number_is
    where
      go : (digits : List ℕ) → AreDigits (map (base_of pawns) (four one last)) digits → on_squares one last w b (kind_less one.kind) l ≡ placed pawns (four one last) digits → number ≡ number_of (map (base_of pawns) (four one last)) digits
          → SpellsIn pawns (four one last) (number + d * kind_digits last.kind) (on_squares one last w b (d + kind_less one.kind) l)
      go [] are is number_is = absurd are
      go (x ∷ []) are is number_is = absurd (are.1)
      go (x ∷ y ∷ []) are is number_is = absurd (are.1.1)
      go (x ∷ y ∷ z ∷ []) are is number_is = absurd (are.1.1.1)
      go (x ∷ y ∷ z ∷ v ∷ u ∷ more) are is number_is = absurd (are.1.1.1.1)
      go (x ∷ y ∷ z ∷ v ∷ []) are is number_is =
          let first : w ≡ square_of pawns (king_of White) x = squares (heads is) in
          let second : b ≡ square_of pawns (king_of Black) y = squares (heads (tails is)) in
          let third : kind_less one.kind ≡ square_of pawns one z = squares (heads (tails (tails is))) in
          let fourth : l ≡ square_of pawns last v = squares (heads (tails (tails (tails is)))) in
          let square = square_kind pawns one.side one.kind z one_other in
          let none : z ≡ 0 = omega (arith, third, square) in
          let there : d + kind_less one.kind ≡ square_of pawns one d = sym (square_kind pawns one.side one.kind d one_other) in
          record {
            digits = x ∷ y ∷ d ∷ v ∷ [];
            are = (are.0, (are.1.0, (subst (λ k. d < k) (sym one_base) d_in, (are.1.1.1.0, tt))));
            list_is = ap (λ q. on_squares one last q b (d + kind_less one.kind) l) first ∙ ap (λ q. on_squares one last (square_of pawns (king_of White) x) q (d + kind_less one.kind) l) second
                ∙ ap (λ q. on_squares one last (square_of pawns (king_of White) x) (square_of pawns (king_of Black) y) q l) there
                ∙ ap (λ q. on_squares one last (square_of pawns (king_of White) x) (square_of pawns (king_of Black) y) (square_of pawns one d) q) fourth;
            number_is =
                let base = last_base in
                let at_zero = number_is ∙ ap (λ k. number_of (map (base_of pawns) (four one last)) (x ∷ y ∷ k ∷ v ∷ [])) none in
                at_zero_up x y v at_zero;
          }
        where
          at_zero_up : (x y v : ℕ) → number ≡ number_of (map (base_of pawns) (four one last)) (x ∷ y ∷ 0 ∷ v ∷ []) → number + d * kind_digits last.kind ≡ number_of (map (base_of pawns) (four one last)) (x ∷ y ∷ d ∷ v ∷ [])
          at_zero_up x y v is = let base = ap (λ k. d * k) (sym last_base) in omega (arith, is, base)

-- ---- codes

-- a number of the class with targets
pawns_number : (m : Material) (number : ℕ) (list : List (Man × ℕ)) → SpellsMen m number list → m ≡ a_pawn_each → number < 4718592
pawns_number m number list spells is = go spells.digits (subst (λ (k : Material). AreDigits (men_bases k) spells.digits) is spells.are) (spells.number_is ∙ ap (λ (k : Material). number_of (men_bases k) spells.digits) is)
  where
    go : (digits : List ℕ) → AreDigits (32 ∷ 64 ∷ 48 ∷ 48 ∷ []) digits → number ≡ number_of (32 ∷ 64 ∷ 48 ∷ 48 ∷ []) digits → number < 4718592
    go [] are is = absurd are
    go (x ∷ []) are is = absurd (are.1)
    go (x ∷ y ∷ []) are is = absurd (are.1.1)
    go (x ∷ y ∷ z ∷ []) are is = absurd (are.1.1.1)
    go (x ∷ y ∷ z ∷ v ∷ u ∷ more) are is = absurd (are.1.1.1.1)
    go (x ∷ y ∷ z ∷ v ∷ []) are is = let a = are.0 in let b = are.1.0 in let c = are.1.1.0 in let d = are.1.1.1.0 in omega (arith, a, b, c, d, is)

module _ (targeted : Bool) (c first : ℕ) (men : ShelfMen) (is : IsShelfOf targeted c first (men_on men (kind_less men.first.kind))) (d : ℕ) (d_in : d < kind_digits men.first.kind) where
  abbrev there : ShelfMen
  there = men_on men (d + kind_less men.first.kind)

  module _ (side : Side) (y : ℕ) (y_in : y < kind_digits men.last.kind) where
    abbrev s : ℕ
    s = y + kind_less men.last.kind

    abbrev n : ℕ
    n = number_in c first side y

    abbrev up : ℕ
    up = number_in c (first + d) side y

    abbrev here : TellsMen is.0.targeted c (code_of c n) (stand_with (men_on men (kind_less men.first.kind)) s) side
    here = is.0.tells side y y_in

    abbrev pawns : Bool
    pawns = has_pawns (material_of c)

    spells : SpellsMen (material_of c) (here.number + d * kind_digits men.last.kind) (list_of (stand_with there s))
    spells =
        let order = is.0.men_of.are in
        let low : SpellsIn pawns (four men.first men.last) here.number (on_squares men.first men.last men.white men.black (kind_less men.first.kind) s) = subst (λ (l : List Man). SpellsIn pawns l here.number (on_squares men.first men.last men.white men.black (kind_less men.first.kind) s)) (sym order) (record { digits = here.men.digits; are = here.men.are; list_is = here.men.list_is; number_is = here.men.number_is }) in
        let high = subst (λ (l : List Man). SpellsIn pawns l (here.number + d * kind_digits men.last.kind) (on_squares men.first men.last men.white men.black (d + kind_less men.first.kind) s)) order
        (moved_up pawns men.first men.last is.0.men_of.one_beside is.0.men_of.last_beside men.white men.black s d d_in here.number low) in
        record { digits = high.digits; are = high.are; list_is = high.list_is; number_is = high.number_is }

    wide : places c ≡ kind_digits men.last.kind
    wide = is.0.len

    abbrev ended : Bool → Bool → ℕ → ℕ
    ended has told number = number_from number (2 ∷ (if has then 2 ∷ [] else [])) (side_number side ∷ (if has then (if told then 1 else 0) ∷ [] else []))

    number_up : up ≡ n + d * (2 * kind_digits men.last.kind)
    number_up = ap (λ w. (first + d) * (2 * w) + side_number side + 2 * y) wide ∙ (let e : (first + d) * (2 * kind_digits men.last.kind) + side_number side + 2 * y ≡ first * (2 * kind_digits men.last.kind) + side_number side + 2 * y + d * (2 * kind_digits men.last.kind) = omega arith in e)
        ∙ ap (λ w. first * (2 * w) + side_number side + 2 * y + d * (2 * kind_digits men.last.kind)) (sym wide)

    code_is : code_of c up ≡ ended (has_target (material_of c)) is.0.targeted (here.number + d * kind_digits men.last.kind)
    code_is = of_targets c plain targets
      where
        plain : has_target (material_of c) ≡ false → code_of c up ≡ ended (has_target (material_of c)) is.0.targeted (here.number + d * kind_digits men.last.kind)
        plain none = grind (arith, code_plain, number_up, kind_digits, side_number)

        targets : has_target (material_of c) ≡ true → code_of c up ≡ ended (has_target (material_of c)) is.0.targeted (here.number + d * kind_digits men.last.kind)
        targets has =
            let from = here.ends.number_is ∙ ap (λ b. ended b is.0.targeted here.number) has in
            let few = side_few side in
            let width : kind_digits men.last.kind ≡ 48 = sym wide ∙ places_is c has in
            let scaled = ap (λ w. d * w) width in
            let number = number_up ∙ ap (λ w. n + d * (2 * w)) width in
            let below = pawns_number (material_of c) (here.number + d * kind_digits men.last.kind) (list_of (stand_with there s)) spells (one_pawn_each c has) in
            let half = (half_is c has).1 in
            let told = ap (λ b. ended b is.0.targeted (here.number + d * kind_digits men.last.kind)) has in
            let bit = bit_few is.0.targeted in
            elim (cases_lt n (half_of c)) [
              | inl low ↦
                  let at = code_low c n has low in
                  let above = code_low c up has (omega (arith, from, at, number, scaled, below, half, few, bit)) in
                  above ∙ (let e : 2 * up ≡ ((here.number + d * kind_digits men.last.kind) * 2 + side_number side) * 2 + bit_of is.0.targeted = omega (arith, from, at, number, scaled, few, bit) in e) ∙ sym told
              | inr high ↦
                  let at = code_high c n has high in
                  let above = code_high c up has (omega (arith, number, high)) in
                  above ∙ (let e : 2 * (up - half_of c) + 1 ≡ ((here.number + d * kind_digits men.last.kind) * 2 + side_number side) * 2 + bit_of is.0.targeted = omega (arith, from, at, number, scaled, high) in e) ∙ sym told
            ]

    told : TellsMen is.0.targeted c (code_of c up) (stand_with there s) side
    told = record {
      number = here.number + d * kind_digits men.last.kind;
      men = spells;
      filled = λ e. absurd (cc);
      ends = record { number_is = code_is; never = here.ends.never };
    }

  pub shelf_up : IsShelfOf targeted c (first + d) there
  shelf_up = (
    record {
      men_of = record { are = is.0.men_of.are; one_beside = is.0.men_of.one_beside; last_beside = is.0.men_of.last_beside };
      len = is.0.len;
      targeted = is.0.targeted;
      tells = λ side digit below. told side digit below;
    },
    is.1,
  )

-- a square on which the man may stand has a digit
pub digit_there : (man : Man) (s : ℕ) → s < 64 → MayStand man s → (kind_less man.kind ≤ s) × (s - kind_less man.kind < kind_digits man.kind)
digit_there man s s_in may = go man.kind may
  where
    go : (kind : Kind) → (kind ≡ P → (0 < rank_of s) × (rank_of s < 7)) → (kind_less kind ≤ s) × (s - kind_less kind < kind_digits kind)
    go P may = let ranks = may refl in let low = ranks.0 in let high = ranks.1 in (omega (arith, low), omega (arith, high))
    go Q may = (omega arith, omega (arith, s_in))
    go R may = (omega arith, omega (arith, s_in))
    go B may = (omega arith, omega (arith, s_in))
    go N may = (omega arith, omega (arith, s_in))
    go K may = (omega arith, omega (arith, s_in))

-- the shelf of a digit
pub run_at : (targeted : Bool) (c first : ℕ) (men : ShelfMen) → AreShelvesOf targeted c men first → (d n on from : ℕ) → d < kind_digits men.first.kind → n ≡ d → on ≡ from + d → from ≡ kind_less men.first.kind → IsShelfOf targeted c (first + n) (men_on men on) × IsWithin c (first + n)
run_at targeted c first men are d n on from d_in n_is on_is from_is =
    let square : d + kind_less men.first.kind ≡ on = omega (arith, on_is, from_is) in
    subst (λ k. IsShelfOf targeted c (first + k) (men_on men on) × IsWithin c (first + k)) (sym n_is)
    (subst (λ s. IsShelfOf targeted c (first + d) (men_on men s) × IsWithin c (first + d)) square (are d d_in))
