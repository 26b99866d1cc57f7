-- Items of which no ends are known.
use Rattle.std.proofs.Common.{◌≡◌, ◌≢◌, ℕ, ◌+◌, ◌<◌, true, false, List, slice_index_or, arith, subst}
use Rattle.egt_sweep.specs.FillPrelude.{bit_at, bit_at-zero, SquareSet, kind_less, ShelfMen, TableValue, AreShelvesOf}
use Rattle.egt_sweep.specs.FillPrelude.{HoldsExits, column_of, Part, IsItem, men_of, targeted_shelves_of, shelves_of}
use Rattle.egt_sweep.specs.FillPrelude.{AllEnded, no_squares, Filling, Item, Shelf}

-- there are no entries at the ends where no square is one
none_ended : (part : Part) (t : TableValue) (shelves : Shelf) (ended : List SquareSet) → ((s : ℕ) → slice_index_or ended s no_squares ≡ no_squares) → AllEnded part t shelves ended
none_ended part t shelves ended none = grind (arith, kind_less, bit_at, bit_at-zero)

-- what is kept of such an item holds of any table
pub begun_item : (f : Filling) (t : TableValue) (men : ShelfMen) (item : Item) → men ≡ men_of f item → item.first + f.half + 64 < 4294967296
    → HoldsExits (column_of f.part) f.children men item.side item.leaving.value → AreShelvesOf false f.class men item.first → (f.half ≢ 0 → AreShelvesOf true f.class men (item.first + f.half))
    → ((s : ℕ) → slice_index_or item.ended s no_squares ≡ no_squares) → ((s : ℕ) → slice_index_or item.targeted_ended s no_squares ≡ no_squares) → IsItem f t item
begun_item f t men item is room leaving plain targeted ended targeted_ended = record {
  room = room;
  leaving = subst (λ (m : ShelfMen). HoldsExits (column_of f.part) f.children m item.side item.leaving.value) is leaving;
  plain = subst (λ (m : ShelfMen). AreShelvesOf false f.class m item.first) is plain;
  targeted = λ some. subst (λ (m : ShelfMen). AreShelvesOf true f.class m (item.first + f.half)) is (targeted some);
  ended = none_ended f.part t (shelves_of f item) item.ended ended;
  targeted_ended = λ _. none_ended f.part t (targeted_shelves_of f item) item.targeted_ended targeted_ended;
}
