-- Items by their places.
use Rattle.std.specs.Prelude.{◌≡◌, ℕ, ◌<◌, List, length, slice_index, slice_index_or}
use Rattle.egt_sweep.specs.Stamps.{stamp_place}
use Rattle.egt_sweep.specs.declared.items.Item.{Item}

-- the place of the item's kings and side
abbrev pub place_of : Item → ℕ
place_of item = stamp_place item.side item.white item.black

-- the number of each item stands at its place
abbrev pub AreNumbered : List Item → (places : List ℕ) → Type 0
AreNumbered items places = (k : ℕ) (d : Item) → k < length items → slice_index places (place_of (slice_index_or items k d)) ≡ k
