-- The fields of a board, and how they come back from what they show.
use Rattle.std.specs.Prelude.{◌≡◌, List, [], ◌∷◌, None}
use Rattle.std.proofs.Common.{ap, sym, ◌∙◌, get_or}
use Rattle.std.specs.Ordering.{nat_cmp}
use Rattle.std.specs.FinMap as map
use Rattle.egt_board.specs.declared.board.Board.TheInside.{Inside}
use Rattle.egt_board.specs.Placement.{Placement}
use Rattle.egt_board.specs.Board.{Slot, listed, padded, placed, AreKept}

abbrev pub slots_of : Inside → List Slot
slots_of a = a.first ∷ a.second ∷ a.third ∷ a.fourth ∷ []

-- the fields that show the men
abbrev pub fields_of : Placement → Inside
fields_of men =
    let xs = padded 4 (map.entries men) in
    record { first = get_or xs 0 None; second = get_or xs 1 None; third = get_or xs 2 None; fourth = get_or xs 3 None }

-- the fields come back from what they show
pub fields_of-placed : (a : Inside) → AreKept (slots_of a) → fields_of (placed (slots_of a)) ≡ a
fields_of-placed a kept = λ i. record {
  first = get_or (back i) 0 None;
  second = get_or (back i) 1 None;
  third = get_or (back i) 2 None;
  fourth = get_or (back i) 3 None;
}
  where
    back : padded 4 (map.entries (placed (slots_of a))) ≡ slots_of a
    back = ap (padded 4) (map.entries-from_sorted nat_cmp (listed (slots_of a)) kept.in_order) ∙ sym kept.full
