-- The codes of a shelf.
use Rattle.std.proofs.Common.{◌≡◌, ℕ, ◌+◌, ◌*◌, ◌<◌, arith, refl, sym, ap, subst, ◌∙◌}
use Rattle.egt_sweep.specs.FillPrelude.{Side, code_of, number_of, kind_digits, kind_less, number_in, stand_with, size_of}
use Rattle.egt_sweep.specs.FillPrelude.{side_few, Has, SquareSet, TableValue, Part, IsCodeOf, IsLaneOf, IsMendedAt}
use Rattle.egt_sweep.specs.FillPrelude.{IsOfKings, IsShelf, Shelf}
use Rattle.egt_sweep.proofs.PutEntries.{mended_after}

module _ (c : ℕ) (shelf : Shelf) (is : IsShelf c shelf) where
  pub number_within : (digit : ℕ) → digit < kind_digits shelf.men.last.kind → number_in c shelf.number shelf.side digit < size_of c
  number_within digit below = grind (arith, side_few)

  pub of_kings : (digit : ℕ) → digit < kind_digits shelf.men.last.kind → IsOfKings c shelf.men.white shelf.men.black shelf.side (code_of c (number_in c shelf.number shelf.side digit))
  of_kings digit below = record {
    targeted = is.of.0.targeted;
    stand = stand_with shelf.men (digit + kind_less shelf.men.last.kind);
    tells = is.of.0.tells shelf.side digit below;
    white_is = refl;
    black_is = refl;
  }

  -- different digits have different codes
  pub one_digit : ((n : ℕ) → n < size_of c → number_of c (code_of c n) ≡ n) → (x y : ℕ) → x < kind_digits shelf.men.last.kind → y < kind_digits shelf.men.last.kind
      → code_of c (number_in c shelf.number shelf.side x) ≡ code_of c (number_in c shelf.number shelf.side y) → x ≡ y
  one_digit numbers x y x_in y_in same = grind (arith, number_in, number_within, number_of)

-- the code of a square's digit
pub code_at : (c d first digit shelf : ℕ) (side : Side) (code : ℕ) → d ≡ c → first ≡ number_in c shelf side 0 → code ≡ code_of d (first + 2 * digit) → code ≡ code_of c (number_in c shelf side digit)
code_at c d first digit shelf side code same from is = grind (arith, code_of, number_in)

-- the first number by the class
pub first_here : (d c first shelf : ℕ) (side : Side) → d ≡ c → first ≡ number_in d shelf side 0 → first ≡ number_in c shelf side 0
first_here d c first shelf side same is = is ∙ ap (λ k. number_in k shelf side 0) same

-- one more is put
pub more : (part : Part) (d first digit square : ℕ) (shelf : Shelf) (lanes : SquareSet) (code : ℕ) (old mid new : TableValue) → digit < kind_digits shelf.men.last.kind → digit + kind_less shelf.men.last.kind ≡ square → Has lanes square
    → d ≡ old.class → first ≡ number_in old.class shelf.number shelf.side 0 → code ≡ code_of d (first + 2 * digit)
    → IsMendedAt part (IsLaneOf old.class shelf lanes) old mid → IsMendedAt part (λ i. i ≡ code) mid new → IsMendedAt part (IsLaneOf old.class shelf lanes) old new
more part d first digit square shelf lanes code old mid new below on has same from code_is before put = grind (arith, code_at, mended_after)

-- codes of a shelf have its kings
pub codes_of_kings : (c : ℕ) (shelf : Shelf) (code : ℕ) → IsShelf c shelf → IsCodeOf c shelf code → IsOfKings c shelf.men.white shelf.men.black shelf.side code
codes_of_kings c shelf code is of = subst (IsOfKings c shelf.men.white shelf.men.black shelf.side) (sym of.2) (of_kings c shelf is of.0 of.1)
