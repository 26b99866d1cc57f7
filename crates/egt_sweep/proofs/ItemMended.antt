-- The entries of an item, without a target and with one.
use Rattle.std.proofs.Common.{◌≡◌, ◌≢◌, ℕ, ◌+◌, ◌<◌, Bool, true, false, List, sym, subst}
use Rattle.egt_sweep.specs.FillPrelude.{false≢true, SquareSet, code_of, kind_digits, kind_less, number_in, stand_with}
use Rattle.egt_sweep.specs.FillPrelude.{TellsMen, TableValue, AreShelvesOf, IsItem, men_of, targeted_shelves_of, shelves_of}
use Rattle.egt_sweep.specs.FillPrelude.{AllEnded, AreRightRows, IsCodeIn, IsMended, IsMendedAt, IsOfKings, IsShelf, shelf_at}
use Rattle.egt_sweep.specs.FillPrelude.{Filling, Item, Shelf}
use Rattle.egt_sweep.proofs.PutEntries.{mended_after, widened}
use Rattle.egt_sweep.proofs.RowsMended.{all_ended_stay, rows_stay}
use Rattle.egt_sweep.proofs.ShelfLanes.{codes_of_kings}
use Rattle.egt_sweep.proofs.ToldOnce.{targeted_told}

-- the codes of shelves tell their men, and a target where there is one
module _ (c : ℕ) (shelves : Shelf) (are : AreShelvesOf shelves.targeted c shelves.men shelves.number) where
  one_shelf : (x : ℕ) → x < kind_digits shelves.men.first.kind → IsShelf c (shelf_at shelves x)
  one_shelf x x_in = record { of = (are x x_in).0; within = (are x x_in).1 }

  pub codes_in_kings : (code : ℕ) → IsCodeIn c shelves code → IsOfKings c shelves.men.white shelves.men.black shelves.side code
  codes_in_kings code of = codes_of_kings c (shelf_at shelves of.0) code (one_shelf of.0 of.1) of.2

  code_told : (x y : ℕ) → (x_in : x < kind_digits shelves.men.first.kind) → y < kind_digits shelves.men.last.kind
      → TellsMen shelves.targeted c (code_of c (number_in c (shelves.number + x) shelves.side y)) (stand_with (shelf_at shelves x).men (y + kind_less shelves.men.last.kind)) shelves.side
  code_told x y x_in y_in = subst (λ (b : Bool). TellsMen b c (code_of c (number_in c (shelves.number + x) shelves.side y)) (stand_with (shelf_at shelves x).men (y + kind_less shelves.men.last.kind)) shelves.side) (are x x_in).0.1 ((are x x_in).0.0.tells shelves.side y y_in)

-- no code is of shelves with a target and of others
pub apart_shelves : (c : ℕ) (one other : Shelf) → AreShelvesOf one.targeted c one.men one.number → AreShelvesOf other.targeted c other.men other.number → one.targeted ≢ other.targeted
    → (x y : ℕ) → x < kind_digits one.men.first.kind → y < kind_digits one.men.last.kind → ¬ IsCodeIn c other (code_of c (number_in c (one.number + x) one.side y))
apart_shelves c one other ones others apart x y x_in y_in of =
    let code = code_of c (number_in c (one.number + x) one.side y) in
    let digit = of.2.0 in
    let there : TellsMen other.targeted c code (stand_with (shelf_at other of.0).men (digit + kind_less other.men.last.kind)) other.side =
    subst (λ n. TellsMen other.targeted c n (stand_with (shelf_at other of.0).men (digit + kind_less other.men.last.kind)) other.side) (sym of.2.2) (code_told c other others of.0 digit of.1 of.2.1) in
    apart (targeted_told c code one.targeted other.targeted (stand_with (shelf_at one x).men (y + kind_less one.men.last.kind)) (stand_with (shelf_at other of.0).men (digit + kind_less other.men.last.kind)) one.side other.side (code_told c one ones x y x_in y_in) there)

module _ (f : Filling) (old : TableValue) (item : Item) (is : IsItem f old item) (class : old.class ≡ f.class) where
  plain_are : AreShelvesOf false old.class (men_of f item) item.first
  plain_are = subst (λ c. AreShelvesOf false c (men_of f item) item.first) (sym class) is.plain

  pub lower_mended : (mid : TableValue) → IsMendedAt f.part (IsCodeIn old.class (shelves_of f item)) old mid → IsMended f.part item.white item.black item.side old mid
  lower_mended mid first = widened f.part (IsCodeIn old.class (shelves_of f item)) (IsOfKings old.class item.white item.black item.side) old mid first (λ i of. codes_in_kings old.class (shelves_of f item) plain_are i of)

  module _ (mid : TableValue) (first : IsMendedAt f.part (IsCodeIn old.class (shelves_of f item)) old mid) (some : f.half ≢ 0) where
    targeted_are : AreShelvesOf true old.class (men_of f item) (item.first + f.half)
    targeted_are = subst (λ c. AreShelvesOf true c (men_of f item) (item.first + f.half)) (sym class) (is.targeted some)

    pub upper_ended : AllEnded f.part mid (targeted_shelves_of f item) item.targeted_ended
    upper_ended = all_ended_stay f.part old mid (IsCodeIn old.class (shelves_of f item)) first (targeted_shelves_of f item)
        (apart_shelves old.class (targeted_shelves_of f item) (shelves_of f item) targeted_are plain_are (λ e. false≢true (sym e))) item.targeted_ended (is.targeted_ended some)

    module _ (new : TableValue) (second : IsMendedAt f.part (IsCodeIn mid.class (targeted_shelves_of f item)) mid new) where
      pub both_mended : IsMended f.part item.white item.black item.side old new
      both_mended = mended_after f.part (IsOfKings old.class item.white item.black item.side) (IsCodeIn mid.class (targeted_shelves_of f item)) old mid new (lower_mended mid first) second
          (λ i of. codes_in_kings old.class (targeted_shelves_of f item) targeted_are i (subst (λ c. IsCodeIn c (targeted_shelves_of f item) i) first.class of))

      apart : (x y : ℕ) → x < kind_digits f.men.first.kind → y < kind_digits f.men.last.kind → ¬ IsCodeIn mid.class (targeted_shelves_of f item) (code_of mid.class (number_in mid.class (item.first + x) item.side y))
      apart = subst (λ c. (x y : ℕ) → x < kind_digits f.men.first.kind → y < kind_digits f.men.last.kind → ¬ IsCodeIn c (targeted_shelves_of f item) (code_of c (number_in c (item.first + x) item.side y))) (sym first.class)
          (apart_shelves old.class (shelves_of f item) (targeted_shelves_of f item) plain_are targeted_are false≢true)

      pub lower_ended : (ended : List SquareSet) → AllEnded f.part mid (shelves_of f item) ended → AllEnded f.part new (shelves_of f item) ended
      lower_ended = all_ended_stay f.part mid new (IsCodeIn mid.class (targeted_shelves_of f item)) second (shelves_of f item) apart

      pub lower_right : (scores clocks : List (List ℕ)) → AreRightRows f.part mid (shelves_of f item) scores clocks (kind_digits f.men.first.kind) → AreRightRows f.part new (shelves_of f item) scores clocks (kind_digits f.men.first.kind)
      lower_right = rows_stay f.part mid new (IsCodeIn mid.class (targeted_shelves_of f item)) second (shelves_of f item) apart
