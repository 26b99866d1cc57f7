-- A look at one item leaves what holds of all.
use Rattle.std.proofs.Common.{◌≡◌, ◌≢◌, ◌∙◌, ℕ, ◌+◌, ◌<◌, ◌≤◌, Bool, List, length, slice_index, slice_index_or}
use Rattle.std.proofs.Common.{slice_set, inl, inr, refl, ap, sym, subst, arith, true, false}
use Rattle.egt_sweep.specs.FillPrelude.{cases_eq, get_or-set_other, get_or-set_same, length-set, Side, code_of, kind_digits}
use Rattle.egt_sweep.specs.FillPrelude.{kind_less, number_in, ShelfMen, TableValue, AreShelvesOf, Children, Part, IsDueItem}
use Rattle.egt_sweep.specs.FillPrelude.{AreSeen, IsItem, men_of, targeted_shelves_of, shelves_of, IsMended, IsOfKings}
use Rattle.egt_sweep.specs.FillPrelude.{ReadsKings, AreDue, IsFresh, IsFreshItem, IsLookedAt, IsStamped, IsUnderWay, place_of, Filling}
use Rattle.egt_sweep.specs.FillPrelude.{Item, Marks, Shelf}
use Rattle.egt_sweep.proofs.DueThrough.{all_due_stay, scores_in_stay}
use Rattle.egt_sweep.proofs.ItemMended.{codes_in_kings}
use Rattle.egt_sweep.proofs.RowsMended.{all_ended_stay}
use Rattle.egt_sweep.proofs.StampPlaces.{stamps_rise}
use Rattle.egt_sweep.proofs.ToldOnce.{kings_told, side_told}

-- a code has one pair of kings and one side to move
kings_once : (c code white black w b : ℕ) (side s : Side) → IsOfKings c white black side code → IsOfKings c w b s code → (white ≡ w) × (black ≡ b) × (side ≡ s)
kings_once c code white black w b side s here there =
    let both = kings_told c code here.targeted there.targeted here.stand there.stand side s here.tells there.tells in (
      sym here.white_is ∙ both.0 ∙ there.white_is,
      sym here.black_is ∙ both.1 ∙ there.black_is,
      side_told c code here.targeted there.targeted here.stand there.stand side s here.tells there.tells,
    )

-- what was seen by the old table is due in the new one, unless it is read there
seen_due : (part : Part) (white black : ℕ) (s : Side) (old new : TableValue) → IsMended part white black s old new → (targeted : Bool) (children : Children) (men : ShelfMen) (first : ℕ) (side : Side) → ¬ ReadsKings old.class men side white black s
    → AreSeen part targeted old new children men first side → AreDue part targeted new children men first side
seen_due part white black s old new mended targeted children men first side apart seen x y x_in y_in =
    let lane = seen x y x_in y_in in
    (lane.0, lane.1, lane.2, scores_in_stay part white black s old new mended targeted children men side apart (x + kind_less men.first.kind) (y + kind_less men.last.kind) lane.0 lane.1 lane.3)

module _ (f : Filling) (old new : TableValue) (items : List Item) (marks later : Marks) (i : ℕ) (next : Item) (below : f.class < 36) (class : old.class ≡ f.class)
    (under : IsUnderWay f old items marks) (i_in : i < length items) where
  module _ (look : IsLookedAt f old new (slice_index_or items i next) next marks.tick) (stamped : IsStamped (slice_index_or items i next) old new marks later) where
    -- stamps only rise
    rise : (j : ℕ) → slice_index marks.stamps.items j ≤ slice_index later.stamps.items j
    rise j = elim stamped [
      | inl same ↦ let e = ap (λ (m : Marks). slice_index m.stamps.items j) same.1 in omega (arith, e)
      | inr new_stamp ↦ elim (cases_eq j (place_of (slice_index_or items i next))) [
        | inl here ↦ let low = under.stamped j in let at = ap (slice_index later.stamps.items) here ∙ new_stamp.2 in let is = new_stamp.0 in omega (arith, low, at, is)
        | inr other ↦ let e = new_stamp.3 j other in omega (arith, e)
      ]
    ]

    later_on : marks.tick ≤ later.tick
    later_on = elim stamped [ inl same ↦ let e = ap (λ (m : Marks). m.tick) same.1 in omega (arith, e) | inr new_stamp ↦ let e = new_stamp.0 in omega (arith, e) ]

    low : (j : ℕ) → slice_index later.stamps.items j ≤ later.tick
    low j = elim stamped [
      | inl same ↦ let e = ap (λ (m : Marks). slice_index m.stamps.items j) same.1 in let t = ap (λ (m : Marks). m.tick) same.1 in let s = under.stamped j in omega (arith, e, t, s)
      | inr new_stamp ↦ elim (cases_eq j (place_of (slice_index_or items i next))) [
        | inl here ↦ let at = ap (slice_index later.stamps.items) here ∙ new_stamp.2 in omega (arith, at)
        | inr other ↦ let e = new_stamp.3 j other in let s = under.stamped j in let t = later_on in omega (arith, e, s, t)
      ]
    ]

    long_after : length later.stamps.items ≡ 8192
    long_after = elim stamped [ inl same ↦ ap (λ (m : Marks). length m.stamps.items) same.1 ∙ under.long | inr new_stamp ↦ new_stamp.1 ∙ under.long ]

    -- where something was put, nothing that reads it is fresh
    not_read : (men : ShelfMen) (side : Side) (looked : ℕ) → looked ≤ marks.tick → slice_index later.stamps.items (place_of (slice_index_or items i next)) ≡ marks.tick + 1 → IsFresh f.class men side later.stamps.items looked
        → ¬ ReadsKings old.class men side (slice_index_or items i next).white (slice_index_or items i next).black (slice_index_or items i next).side
    not_read men side looked within at fresh reads =
        let it = slice_index_or items i next in
        let le = fresh.1 it.white it.black it.side (subst (λ c. ReadsKings c men side it.white it.black it.side) class reads) in
        omega (arith, le, at, within)

    -- ---- other items

    module _ (k : ℕ) (d : Item) (k_in : k < length items) (other : k ≢ i) where
      others_kings : ¬ (((slice_index_or items k d).white ≡ (slice_index_or items i next).white) × ((slice_index_or items k d).black ≡ (slice_index_or items i next).black) × ((slice_index_or items k d).side ≡ (slice_index_or items i next).side))
      others_kings same =
          let one = slice_index_or items k d in
          let two = slice_index_or items i next in
          let place : place_of one ≡ place_of two = ap (λ (s : Side). place_of (record { first = one.first; white = one.white; black = one.black; side = s; looked = one.looked; ended = one.ended; targeted_ended = one.targeted_ended; leaving = one.leaving })) same.2
          ∙ (let white = same.0 in let black = same.1 in omega (arith, white, black)) in
          other (sym (under.placed k d k_in) ∙ ap (slice_index under.places) place ∙ under.placed i next i_in)

      stays_item : IsItem f new (slice_index_or items k d)
      stays_item =
          let it = slice_index_or items k d in
          let is = under.items_are k d k_in in
          let two = slice_index_or items i next in
          let At = IsOfKings old.class two.white two.black two.side in
          let apart : (shelves : Shelf) → AreShelvesOf shelves.targeted f.class shelves.men shelves.number → ¬ ((shelves.men.white ≡ two.white) × (shelves.men.black ≡ two.black) × (shelves.side ≡ two.side)) → (x y : ℕ) → x < kind_digits shelves.men.first.kind → y < kind_digits shelves.men.last.kind
          → ¬ At (code_of old.class (number_in old.class (shelves.number + x) shelves.side y)) = λ shelves are unlike x y x_in y_in of.
          unlike (kings_once old.class (code_of old.class (number_in old.class (shelves.number + x) shelves.side y)) shelves.men.white shelves.men.black two.white two.black shelves.side two.side
          (codes_in_kings old.class shelves (subst (λ c. AreShelvesOf shelves.targeted c shelves.men shelves.number) (sym class) are) (code_of old.class (number_in old.class (shelves.number + x) shelves.side y)) (x, x_in, (y, y_in, refl))) of) in
          record {
            room = is.room;
            leaving = is.leaving;
            plain = is.plain;
            targeted = is.targeted;
            ended = all_ended_stay f.part old new At look.mended (shelves_of f it) (apart (shelves_of f it) is.plain others_kings) it.ended is.ended;
            targeted_ended = λ some. all_ended_stay f.part old new At look.mended (targeted_shelves_of f it) (apart (targeted_shelves_of f it) (is.targeted some) others_kings) it.targeted_ended (is.targeted_ended some);
          }

      stays_due : IsFreshItem f later (slice_index_or items k d) → IsDueItem f new (slice_index_or items k d)
      stays_due fresh =
          let it = slice_index_or items k d in
          let two = slice_index_or items i next in
          let due = under.due k d k_in (stamps_rise f.class (men_of f it) it.side marks.stamps.items later.stamps.items it.looked rise fresh) in
          elim stamped [
            | inl same ↦ subst (λ (t : TableValue). IsDueItem f t it) (sym same.0) due
            | inr new_stamp ↦
                all_due_stay f.part two.white two.black two.side old new look.mended (subst (λ c. c < 36) (sym class) below) f.children (men_of f it) it.first f.half it.side
                (not_read (men_of f it) it.side it.looked (under.looked k d k_in) (new_stamp.2 ∙ new_stamp.0) fresh) others_kings due
          ]

    -- ---- the item that was looked at

    looked_due : IsFreshItem f later next → IsDueItem f new next
    looked_due fresh = elim stamped [
      | inl same ↦ record {
        plain = subst (λ (t : TableValue). AreSeen f.part false t new f.children (men_of f next) next.first next.side) (sym same.0) look.seen.plain;
        targeted = λ some. subst (λ (t : TableValue). AreSeen f.part true t new f.children (men_of f next) (next.first + f.half) next.side) (sym same.0) (look.seen.targeted some);
      }
      | inr new_stamp ↦
          let two = slice_index_or items i next in
          let apart = not_read (men_of f next) next.side next.looked (let e = look.looked in omega (arith, e)) (new_stamp.2 ∙ new_stamp.0) fresh in
          record {
            plain = seen_due f.part two.white two.black two.side old new look.mended false f.children (men_of f next) next.first next.side apart look.seen.plain;
            targeted = λ some. seen_due f.part two.white two.black two.side old new look.mended true f.children (men_of f next) (next.first + f.half) next.side apart (look.seen.targeted some);
          }
    ]

    -- ---- all

    at_item : (k : ℕ) (d : Item) → k < length items → (P : Item → Type 0) → P next → ((other : k ≢ i) → P (slice_index_or items k d)) → P (slice_index_or (slice_set items i next) k d)
    at_item k d k_in P here there = elim (cases_eq k i) [
      | inl same ↦ subst P (sym (ap (λ n. slice_index_or (slice_set items i next) n d) same ∙ get_or-set_same items i next d i_in)) here
      | inr other ↦ subst P (sym (get_or-set_other items i k next d other)) (there other)
    ]

    within : (k : ℕ) → k < length (slice_set items i next) → k < length items
    within k k_in = let e = length-set items i next in omega (arith, k_in, e)

    place_next : place_of next ≡ place_of (slice_index_or items i next)
    place_next = grind (arith, place_of)

    pub still_under_way : IsUnderWay f new (slice_set items i next) later
    still_under_way = record {
      places = under.places;
      items_are = λ k d k_in. at_item k d (within k k_in) (IsItem f new) look.is (λ other. stays_item k d (within k k_in) other);
      looked = λ k d k_in. at_item k d (within k k_in) (λ (item : Item). item.looked ≤ later.tick) (let e = look.looked in let t = later_on in omega (arith, e, t)) (λ other. let le = under.looked k d (within k k_in) in let t = later_on in omega (arith, le, t));
      long = long_after;
      stamped = low;
      placed = λ k d k_in. elim (cases_eq k i) [
        | inl same ↦ ap (λ (item : Item). slice_index under.places (place_of item)) (ap (λ n. slice_index_or (slice_set items i next) n d) same ∙ get_or-set_same items i next d i_in) ∙ ap (slice_index under.places) place_next ∙ under.placed i next i_in ∙ sym same
        | inr other ↦ ap (λ (item : Item). slice_index under.places (place_of item)) (get_or-set_other items i k next d other) ∙ under.placed k d (within k k_in)
      ];
      due = λ k d k_in. at_item k d (within k k_in) (λ (item : Item). IsFreshItem f later item → IsDueItem f new item) looked_due (λ other. stays_due k d (within k k_in) other);
    }
