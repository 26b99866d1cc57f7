-- Items while a part is filled.
use Rattle.std.specs.Prelude.{◌≡◌, ◌≢◌, ℕ, ◌+◌, ◌≤◌, ◌⊎◌, List, length, slice_index}
use Rattle.std.specs.List.{All}
use Rattle.egt_table.specs.Table.{TableValue}
use Rattle.egt_sweep.specs.Begun.{AreNumbered, place_of}
use Rattle.egt_sweep.specs.Covered.{IsDueItem}
use Rattle.egt_sweep.specs.Items.{IsItem, IsSeenItem}
use Rattle.egt_sweep.specs.Mended.{IsMended}
use Rattle.egt_sweep.specs.Rounds.{IsFreshItem}
use Rattle.egt_sweep.specs.declared.filling.Filling.{Filling}
use Rattle.egt_sweep.specs.declared.items.Item.{Item}
use Rattle.egt_sweep.specs.declared.stamps.Marks.{Marks}

-- each item is of its own kings and side, and where none of what it reads has changed since it was looked at, its entries are due
pub record IsUnderWay (f : Filling) (t : TableValue) (items : List Item) (marks : Marks) : Type 0 where
  pub places : List ℕ
  pub items_are : All (IsItem f t) items
  pub looked : All (λ (item : Item). item.looked ≤ marks.tick) items
  pub long : length marks.stamps.items ≡ 8192
  pub stamped : (i : ℕ) → slice_index marks.stamps.items i ≤ marks.tick
  pub placed : AreNumbered items places
  pub due : All (λ (item : Item). IsFreshItem f marks item → IsDueItem f t item) items

-- nothing was put, or the stamp of these entries is new
abbrev pub IsStamped : (item : Item) (old new : TableValue) (marks later : Marks) → Type 0
IsStamped item old new marks later =
    ((new ≡ old) × (later ≡ marks))
    ⊎ ((later.tick ≡ marks.tick + 1) × (length later.stamps.items ≡ length marks.stamps.items) × (slice_index later.stamps.items (place_of item) ≡ later.tick)
    × ((i : ℕ) → i ≢ place_of item → slice_index later.stamps.items i ≡ slice_index marks.stamps.items i))

-- the item after a look at the tick
pub record IsLookedAt (f : Filling) (old new : TableValue) (item after : Item) (tick : ℕ) : Type 0 where
  pub first : after.first ≡ item.first
  pub white : after.white ≡ item.white
  pub black : after.black ≡ item.black
  pub side : after.side ≡ item.side
  pub looked : after.looked ≡ tick
  pub mended : IsMended f.part item.white item.black item.side old new
  pub is : IsItem f new after
  pub seen : IsSeenItem f old new after
