-- Before the first look.
use Rattle.std.proofs.Common.{◌≡◌, ℕ, zero, suc, List, length, replicate, slice_index, refl, arith}
use Rattle.egt_sweep.specs.FillPrelude.{All, TableValue, AreNumbered, IsItem, IsUnderWay, Filling, Item, Marks}

pub begun_under_way : (f : Filling) (t : TableValue) (items : List Item) (places : List ℕ) (marks : Marks) → All (IsItem f t) items → All (λ (item : Item). item.looked ≡ 0) items → AreNumbered items places → length marks.stamps.items ≡ 8192 → ((i : ℕ) → slice_index marks.stamps.items i ≡ 0)
    → IsUnderWay f t items marks
begun_under_way f t items places marks are unseen numbered long none = record {
  places = places;
  items_are = are;
  looked = λ k d k_in. let e = unseen k d k_in in omega (arith, e);
  long = long;
  stamped = λ i. let e = none i in omega (arith, e);
  placed = numbered;
  due = λ k d k_in fresh. absurd (let e = unseen k d k_in in let some = fresh.0 in omega (arith, e, some));
}

-- of zeros alone
pub zeros : (n i : ℕ) → slice_index (replicate n 0) i ≡ 0
zeros zero i = refl
zeros (suc n) zero = refl
zeros (suc n) (suc i) = zeros n i
