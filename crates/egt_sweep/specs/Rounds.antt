-- Rounds of looks.
use Rattle.std.specs.Prelude.{◌≡◌, ℕ, ◌<◌, List, length, slice_index_or}
use Rattle.egt_check.specs.Prelude.{TableValue, AreKept, column_score}
use Rattle.egt_board.specs.declared.man.Side.{Side}
use Rattle.egt_board.specs.declared.man.Side.TheVariants.{White, Black}
use Rattle.egt_sweep.specs.Items.{men_of}
use Rattle.egt_sweep.specs.Stamps.{IsFresh}
use Rattle.egt_sweep.specs.declared.filling.Filling.{Filling}
use Rattle.egt_sweep.specs.declared.items.Item.{Item}
use Rattle.egt_sweep.specs.declared.kept.Kept.{Kept}
use Rattle.egt_sweep.specs.declared.kept.Near.{Near}
use Rattle.egt_sweep.specs.declared.stamps.Marks.{Marks}

-- nothing that the item reads has changed since it was looked at
abbrev pub IsFreshItem : Filling → Marks → Item → Type 0
IsFreshItem f marks item = IsFresh f.class (men_of f item) item.side marks.stamps.items item.looked

-- all is as it was
abbrev pub IsUntouched : (old new : TableValue) (item after : Item) (marks later : Marks) → Type 0
IsUntouched old new item after marks later = (new ≡ old) × (after ≡ item) × (later ≡ marks)

-- nothing that the first so many of the items read has
abbrev pub AreFreshItems : Filling → Marks → List Item → ℕ → Type 0
AreFreshItems f marks items many = (k : ℕ) (d : Item) → k < many → k < length items → IsFreshItem f marks (slice_index_or items k d)

-- what is kept of positions with that side to move holds, and there is a place for each pair of kings
pub record AreAllKept (f : Filling) (t : TableValue) (side : Side) (near : Near) : Type 0 where
  pub kept : AreKept f.class (column_score t) f.men side near.keys.items near.blocks.items
  pub wide : 12 < length near.keys.items

-- with either side
pub record AreBothKept (f : Filling) (t : TableValue) (kept : Kept) : Type 0 where
  pub white : AreAllKept f t White kept.white
  pub black : AreAllKept f t Black kept.black
