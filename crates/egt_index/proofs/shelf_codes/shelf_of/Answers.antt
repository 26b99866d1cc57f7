use Rattle.std.proofs.Common.{◌+◌, ◌*◌, ◌<◌, ◌≡◌, Option, None, Some, IfSome, IfNone, ℕ, arith, subst}
use Rattle.egt_index.specs.Prelude.{king_square, kind_digits, HasShelf, IsShelfBehind, IsShelfOf, king_base}
use Rattle.egt_index.proofs.ShelfCodes.{last_told, shelf_on}
use Rattle.egt_index.proofs.ShelfFound.{a_shelf_behind}
use Rattle.egt_index.proofs.shelf_codes.shelf_of.Goals.{After-shelf_behind}
use Rattle.egt_index.proofs.shelf_codes.shelf_of.Goals as goal

prefix_is : (c : After-shelf_behind) → (c.from.result * 64 + c.from-2.result) * c.digits_of.result + c.in_ok-digit.digit ≡ (c.in_ok-high.high * 64 + c.args.men.now.black) * kind_digits c.args.men.now.first.kind + c.in_ok-digit.digit
prefix_is c = grind arith

told : (c : After-shelf_behind) (shelf : ℕ) → IsShelfBehind c.args.targeted c.args.class shelf ((c.from.result * 64 + c.from-2.result) * c.digits_of.result + c.in_ok-digit.digit) → IsShelfOf c.args.targeted c.args.class shelf c.args.men.now
told c shelf at =
    shelf_on c.args.targeted c.args.class shelf _ c.args.men.now (omega (arith, c.number-number.ensures.below, c.number-number.ensures.value)) (last_told c.args.class c.args.men.now c.requires.men) c.requires.men.last_beside at c.requires.men
    c.in_ok-high.high c.in_ok-digit.digit
    (subst (λ b. c.in_ok-high.high < king_base b) c.has_pawns.ensures c.in_ok-high.ensures.found) (subst (λ b. king_square b c.in_ok-high.high ≡ c.args.men.now.white) c.has_pawns.ensures c.in_ok-high.ensures.is)
    (omega (arith, c.number-black.ensures.on_board, c.number-black.ensures.value)) (omega (arith, c.number-on.ensures.on_board, c.number-on.ensures.value)) c.in_ok-digit.ensures.may c.in_ok-digit.ensures.is
    (prefix_is c)

pub returns-clause-shelf : goal.returns-clause-shelf
returns-clause-shelf c = of c.shelf_behind.result c.shelf_behind.ensures.behind
  where
    of : (o : Option ℕ) → IfSome o (λ shelf. IsShelfBehind c.args.targeted c.args.class shelf ((c.from.result * 64 + c.from-2.result) * c.digits_of.result + c.in_ok-digit.digit)) → IfSome o (λ shelf. IsShelfOf c.args.targeted c.args.class shelf c.args.men.now)
    of None at = tt
    of (Some shelf) at = told c shelf at

pub returns-clause-none : goal.returns-clause-none
returns-clause-none c = of c.shelf_behind.result c.shelf_behind.ensures.none
  where
    prefix : ℕ
    prefix = (c.from.result * 64 + c.from-2.result) * c.digits_of.result + c.in_ok-digit.digit

    of : (o : Option ℕ) → IfNone o ((shelf : ℕ) → IsShelfBehind c.args.targeted c.args.class shelf prefix → ⊥) → IfNone o (HasShelf c.args.targeted c.args.class c.args.men.now → ⊥)
    of (Some shelf) none = tt
    of None none = λ has.
        let behind = a_shelf_behind c.args.class c.args.men.now c.requires.men c.args.targeted c.in_ok-high.high c.args.men.now.black c.in_ok-digit.digit prefix
        (subst (λ b. c.in_ok-high.high < king_base b) c.has_pawns.ensures c.in_ok-high.ensures.found) (omega (arith, c.number-black.ensures.on_board, c.number-black.ensures.value)) c.in_ok-digit.ensures.below (prefix_is c) has.may in
        none behind.0 behind.1
