-- An item as a look sees it.
use Rattle.std.proofs.Common.{◌≡◌, ℕ, ◌+◌, ◌<◌, Bool, true, false, List, sym, ap, ◌∙◌, subst}
use Rattle.egt_sweep.specs.FillPrelude.{Side, code_of, kind_digits, kind_less, size_of, ShelfMen, at, TableValue}
use Rattle.egt_sweep.specs.FillPrelude.{AreShelvesOf, with_kings, square_in, Children, Part, right_lane, AreBlockScores}
use Rattle.egt_sweep.specs.FillPrelude.{AreItemScores, AreSeen, IsItem, IsRightItem, IsSameItem, IsSeenItem, men_of}
use Rattle.egt_sweep.specs.FillPrelude.{AreRightRows, Filling, Item, Scores}

rows_seen : (part : Part) (targeted : Bool) (old new : TableValue) (children : Children) (men : ShelfMen) (first : ℕ) (side : Side) (scores clocks : List (List ℕ)) → AreShelvesOf targeted new.class men first
    → ((n : ℕ) → n < size_of new.class → code_of new.class n < size_of new.class)
    → AreRightRows part new (record { number = first; men = men; side = side; targeted = targeted }) scores clocks (kind_digits men.first.kind) → AreBlockScores part targeted old children men side scores clocks
    → AreSeen part targeted old new children men first side
rows_seen part targeted old new children men first side scores clocks are coded right told x y x_in y_in =
    let a = x + kind_less men.first.kind in
    let b = y + kind_less men.last.kind in (
      at scores a b,
      at clocks a b,
      right_lane targeted new men a (first + x) side (are x x_in).0 (are x x_in).1 coded y y_in part (at scores a b) (at clocks a b) (right x x_in y y_in),
      told a b (square_in men.first.kind x x_in) (square_in men.last.kind y y_in),
    )

pub item_seen : (f : Filling) (old new : TableValue) (item : Item) (scores : Scores) → new.class ≡ f.class → ((n : ℕ) → n < size_of f.class → code_of f.class n < size_of f.class)
    → IsItem f new item → IsRightItem f new item scores → AreItemScores f old (men_of f item) item.side scores → IsSeenItem f old new item
item_seen f old new item scores class coded is right told = record {
  plain = rows_seen f.part false old new f.children (men_of f item) item.first item.side scores.plain.value scores.clocks.value (subst (λ c. AreShelvesOf false c (men_of f item) item.first) (sym class) is.plain)
      (subst (λ c. (n : ℕ) → n < size_of c → code_of c n < size_of c) (sym class) coded) right.plain told.plain;
  targeted = λ some. rows_seen f.part true old new f.children (men_of f item) (item.first + f.half) item.side scores.targeted.value scores.targeted_clocks.value (subst (λ c. AreShelvesOf true c (men_of f item) (item.first + f.half)) (sym class) (is.targeted some))
      (subst (λ c. (n : ℕ) → n < size_of c → code_of c n < size_of c) (sym class) coded) (right.targeted some) (told.targeted some);
}

-- the same item has the same men
pub same_men : (f : Filling) (old new : Item) → IsSameItem old new → men_of f new ≡ men_of f old
same_men f old new same = ap (λ w. with_kings f.men w new.black) same.white ∙ ap (λ b. with_kings f.men old.white b) same.black

-- scores of the item's men are those of the same item
pub told_of : (f : Filling) (t : TableValue) (old new : Item) (men : ShelfMen) (scores : Scores) → IsSameItem old new → men ≡ men_of f old → AreItemScores f t men old.side scores → AreItemScores f t (men_of f new) new.side scores
told_of f t old new men scores same is told =
    subst (λ (m : ShelfMen). AreItemScores f t m new.side scores) (is ∙ sym (same_men f old new same)) (subst (λ (s : Side). AreItemScores f t men s scores) (sym same.side) told)
