-- Items, and what a look at one comes to.
use Rattle.std.specs.Prelude.{◌≡◌, ◌≢◌, ℕ, ◌+◌, ◌<◌, Bool, true, false, List}
use Rattle.egt_check.specs.Prelude.{code_of, kind_digits, kind_less, number_in, at, TableValue, AreShelvesOf}
use Rattle.egt_check.specs.Prelude.{with_kings, HoldsExits, column_of, IsRightLane}
use Rattle.egt_board.specs.declared.man.Side.{Side}
use Rattle.egt_index.specs.declared.shelf_codes.ShelfMen.{ShelfMen}
use Rattle.egt_check.specs.declared.move_scores.Children.{Children}
use Rattle.egt_check.specs.declared.part.Part.{Part}
use Rattle.egt_sweep.specs.Mended.{AllEnded, AreRightRows}
use Rattle.egt_sweep.specs.Settled.{AreScoresIn}
use Rattle.egt_sweep.specs.declared.filling.Filling.{Filling}
use Rattle.egt_sweep.specs.declared.items.Item.{Item}
use Rattle.egt_sweep.specs.declared.kept.Scores.{Scores}
use Rattle.egt_check.specs.declared.shelf.Shelf.{Shelf}

-- the men with the item's kings
abbrev pub men_of : Filling → Item → ShelfMen
men_of f item = with_kings f.men item.white item.black

-- its shelves without a target, and with one
abbrev pub shelves_of : Filling → Item → Shelf
shelves_of f item = record { number = item.first; men = men_of f item; side = item.side; targeted = false }

abbrev pub targeted_shelves_of : Filling → Item → Shelf
targeted_shelves_of f item = record { number = item.first + f.half; men = men_of f item; side = item.side; targeted = true }

-- what is kept of it holds of the table
pub record IsItem (f : Filling) (t : TableValue) (item : Item) : Type 0 where
  pub room : item.first + f.half + 64 < 4294967296
  pub leaving : HoldsExits (column_of f.part) f.children (men_of f item) item.side item.leaving.value
  pub plain : AreShelvesOf false f.class (men_of f item) item.first
  pub targeted : f.half ≢ 0 → AreShelvesOf true f.class (men_of f item) (item.first + f.half)
  pub ended : AllEnded f.part t (shelves_of f item) item.ended
  pub targeted_ended : f.half ≢ 0 → AllEnded f.part t (targeted_shelves_of f item) item.targeted_ended

-- the same item, with other squares of ends
pub record IsSameItem (old new : Item) : Type 0 where
  pub first : new.first ≡ old.first
  pub white : new.white ≡ old.white
  pub black : new.black ≡ old.black
  pub side : new.side ≡ old.side
  pub looked : new.looked ≡ old.looked
  pub leaving : new.leaving ≡ old.leaving

-- the scores are the greatest of all moves, by the own table
abbrev pub AreBlockScores : Part → (targeted : Bool) → TableValue → Children → ShelfMen → Side → (scores clocks : List (List ℕ)) → Type 0
AreBlockScores part targeted t children men side scores clocks = (a b : ℕ) → a < 64 → b < 64 → AreScoresIn part targeted t children men side a b (at scores a b) (at clocks a b)

pub record AreItemScores (f : Filling) (t : TableValue) (men : ShelfMen) (side : Side) (scores : Scores) : Type 0 where
  pub plain : AreBlockScores f.part false t f.children men side scores.plain.value scores.clocks.value
  pub targeted : f.half ≢ 0 → AreBlockScores f.part true t f.children men side scores.targeted.value scores.targeted_clocks.value

-- the item's entries are due to these scores
pub record IsRightItem (f : Filling) (t : TableValue) (item : Item) (scores : Scores) : Type 0 where
  pub plain : AreRightRows f.part t (shelves_of f item) scores.plain.value scores.clocks.value (kind_digits f.men.first.kind)
  pub targeted : f.half ≢ 0 → AreRightRows f.part t (targeted_shelves_of f item) scores.targeted.value scores.targeted_clocks.value (kind_digits f.men.first.kind)

-- the new table's entries of these shelves are due to the greatest scores of all moves by the old one's
abbrev pub AreSeen : Part → (targeted : Bool) → (old new : TableValue) → Children → ShelfMen → (first : ℕ) → Side → Type 0
AreSeen part targeted old new children men first side = (x y : ℕ) → x < kind_digits men.first.kind → y < kind_digits men.last.kind → (score zeroing : ℕ)
    × IsRightLane part targeted new men side (x + kind_less men.first.kind) (y + kind_less men.last.kind) (code_of new.class (number_in new.class (first + x) side y)) score zeroing
    × AreScoresIn part targeted old children men side (x + kind_less men.first.kind) (y + kind_less men.last.kind) score zeroing

pub record IsSeenItem (f : Filling) (old new : TableValue) (item : Item) : Type 0 where
  pub plain : AreSeen f.part false old new f.children (men_of f item) item.first item.side
  pub targeted : f.half ≢ 0 → AreSeen f.part true old new f.children (men_of f item) (item.first + f.half) item.side
