-- The least code of a position: each man in turn on the least square that is left to it.
use Rattle.std.proofs.Common.{◌≡◌, ℕ, ◌+◌, ◌*◌, ◌<◌, ◌⊎◌, Bool, true, false, ltb, List, [], ◌∷◌, map, arith, refl, sym}
use Rattle.std.proofs.Common.{ap, ◌∙◌, inl, inr}
use Rattle.egt_index.specs.Prelude.{cases_eq, Placement, all_below, AreDigits, king_square, square_of, AreCounted, Picks}
use Rattle.egt_index.specs.Prelude.{cases_lt, ltb-true, Side, Kind, K, Man, Stands, men_of, base_by, base_of, placed}
use Rattle.egt_index.specs.Prelude.{White, get-remove_same, get-remove_other, passes_below, number_from, square_by_digit}
use Rattle.std.specs.FinMap as placement
use Rattle.egt_index.proofs.MixedDigits.{number_from-lt}
use Rattle.egt_index.proofs.Listing.{AreApart, first_back, remove_first, get_here}
use Rattle.egt_index.proofs.Counted.{counted_rest, none_left}

rises : ℕ → Bool
rises e = all_below (λ d. ltb (king_square false d) (king_square false e)) e

all_rise : all_below rises 10 ≡ true
unfolding all_below rises
all_rise = refl

-- a greater digit is of a greater square
rising : (pawns : Bool) (side : Side) (kind : Kind) (d e : ℕ) → d < e → e < base_by pawns side kind → square_by_digit pawns side kind d < square_by_digit pawns side kind e
unfolding rises
rising true White K d e lt e_in = omega arith
rising false White K d e lt e_in = ltb-true _ _ (passes_below (λ d. ltb (king_square false d) (king_square false e)) e d (passes_below rises 10 e all_rise e_in) lt)
rising pawns side kind d e lt e_in = grind arith

pub lesser_digit : (pawns : Bool) (man : Man) (d e : ℕ) → d < base_of pawns man → square_of pawns man d < square_of pawns man e → d < e
lesser_digit pawns man d e d_in lt = grind (arith, cases_eq, rising)

pub same_digit : (pawns : Bool) (man : Man) (d e : ℕ) → d < base_of pawns man → e < base_of pawns man → square_of pawns man d ≡ square_of pawns man e → d ≡ e
same_digit pawns man d e d_in e_in same = grind (arith, rising)

-- all men are picked
pub picks_all : (pawns : Bool) (men : Placement) (list : List Man) (digits : List ℕ) → ((s : ℕ) (man : Man) → Stands men s man → s < 64) → AreCounted men list
    → AreDigits (map (base_of pawns) list) digits → Picks pawns men list digits → (men ≡ men_of (placed pawns list digits)) × AreApart (placed pawns list digits)
picks_all pawns men [] digits on_board counted are picks = (none_left men on_board counted, tt)
picks_all pawns men (man ∷ list) [] on_board counted are picks = absurd are
picks_all pawns men (man ∷ list) (d ∷ ds) on_board counted are picks =
    let rest = picks_all pawns (placement.remove men (square_of pawns man d)) list ds (stays (square_of pawns man d)) (counted_rest men man list (square_of pawns man d) picks.0 picks.1.stands counted) are.1 picks.2 in (
      first_back men (man, square_of pawns man d) (placed pawns list ds) picks.1.stands rest.0,
      (sym (ap (λ m. placement.get m (square_of pawns man d)) rest.0) ∙ get-remove_same men (square_of pawns man d) (square_of pawns man d) refl, rest.1),
    )
  where
    stays : (q s : ℕ) (other : Man) → Stands (placement.remove men q) s other → s < 64
    stays q s other stands = grind (arith, cases_eq, get-remove_same, get-remove_other)

-- other digits that place the same men are equal, or of a greater number
pub picks_least : (pawns : Bool) (men : Placement) (list : List Man) (digits others : List ℕ) → AreDigits (map (base_of pawns) list) digits → AreDigits (map (base_of pawns) list) others
    → Picks pawns men list digits → men ≡ men_of (placed pawns list others) → AreApart (placed pawns list others)
    → (digits ≡ others) ⊎ ((high : ℕ) → number_from high (map (base_of pawns) list) digits < number_from high (map (base_of pawns) list) others)
picks_least pawns men [] [] [] are theirs picks is apart = inl refl
picks_least pawns men [] (d ∷ ds) others are theirs picks is apart = absurd are
picks_least pawns men [] [] (e ∷ es) are theirs picks is apart = absurd theirs
picks_least pawns men (man ∷ list) [] others are theirs picks is apart = absurd are
picks_least pawns men (man ∷ list) (d ∷ ds) [] are theirs picks is apart = absurd theirs
picks_least pawns men (man ∷ list) (d ∷ ds) (e ∷ es) are theirs picks is apart = elim (cases_lt (square_of pawns man d) (square_of pawns man e)) [
  | inl less ↦
      let lt = lesser_digit pawns man d e are.0 less in
      inr (λ high. number_from-lt (map (base_of pawns) list) ds es _ _ are.1 theirs.1 (omega arith))
  | inr le ↦
      let there : Stands men (square_of pawns man e) man = ap (λ m. placement.get m (square_of pawns man e)) is ∙ get_here (man, square_of pawns man e) (placed pawns list es) (square_of pawns man e) refl in
      let same_square : square_of pawns man d ≡ square_of pawns man e = elim (cases_lt (square_of pawns man e) (square_of pawns man d)) [
        | inl lt ↦ absurd (picks.1.least (square_of pawns man e) lt there)
        | inr ge ↦ omega arith
      ] in
      let same = same_digit pawns man d e are.0 theirs.0 same_square in
      let rest_is : placement.remove men (square_of pawns man d) ≡ men_of (placed pawns list es) =
      ap (placement.remove men) same_square ∙ ap (λ m. placement.remove m (square_of pawns man e)) is ∙ remove_first (man, square_of pawns man e) (placed pawns list es) apart.0 in
      of_rest same (picks_least pawns (placement.remove men (square_of pawns man d)) list ds es are.1 theirs.1 picks.2 rest_is apart.1)
]
  where
    of_rest : d ≡ e → (ds ≡ es) ⊎ ((high : ℕ) → number_from high (map (base_of pawns) list) ds < number_from high (map (base_of pawns) list) es)
        → (d ∷ ds ≡ e ∷ es) ⊎ ((high : ℕ) → number_from (high * base_of pawns man + d) (map (base_of pawns) list) ds < number_from (high * base_of pawns man + e) (map (base_of pawns) list) es)
    of_rest same h = grind arith
