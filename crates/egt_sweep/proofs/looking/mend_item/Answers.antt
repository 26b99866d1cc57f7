use Rattle.std.proofs.Common.{◌+◌, ℕ, List, true, false, subst, sym}
use Rattle.egt_sweep.specs.FillPrelude.{kind_digits, ShelfMen, AllEnded, AreRightRows, IsCodeIn, IsMendedAt}
use Rattle.egt_sweep.specs.FillPrelude.{targeted_shelves_of, shelves_of}
use Rattle.egt_sweep.proofs.ItemMended.{both_mended, lower_ended, lower_mended, lower_right, upper_ended}
use Rattle.egt_sweep.proofs.looking.mend_item.Goals.{After-mend_shelves-lower, After-mend_shelves-upper}
use Rattle.egt_sweep.proofs.looking.mend_item.Goals as goal

-- what was put at the item's shelves without a target, and at those with one
lower : (c : After-mend_shelves-lower) → let f = c.args.f.now in let old = c.args.table.now in
    IsMendedAt f.part (IsCodeIn old.class (shelves_of f c.args.item.now)) old c.mend_shelves-lower.new.table
lower c =
    let f = c.args.f.now in
    let item = c.args.item.now in
    let old = c.args.table.now in
    let mid = c.mend_shelves-lower.new.table in
    subst (λ (m : ShelfMen). IsMendedAt f.part (IsCodeIn old.class (record { number = item.first; men = m; side = item.side; targeted = false })) old mid) c.requires.men c.mend_shelves-lower.ensures.mended

upper : (c : After-mend_shelves-upper) → let f = c.args.f.now in let mid = c.mend_shelves-lower.new.table in
    IsMendedAt f.part (IsCodeIn mid.class (targeted_shelves_of f c.args.item.now)) mid c.mend_shelves-upper.new.table
upper c =
    let f = c.args.f.now in
    let item = c.args.item.now in
    let mid = c.mend_shelves-lower.new.table in
    let new = c.mend_shelves-upper.new.table in
    subst (λ (m : ShelfMen). IsMendedAt f.part (IsCodeIn mid.class (record { number = item.first + f.half; men = m; side = item.side; targeted = true })) mid new) c.requires.men c.mend_shelves-upper.ensures.mended

pub returns-then-f-eq0-clause-mended : goal.returns-then-f-eq0-clause-mended
returns-then-f-eq0-clause-mended c =
    lower_mended c.args.f.now c.args.table.now c.args.item.now c.requires.item c.requires.table.class_is _
    (lower (goal.at.returns-then-f-eq0-clause-mended c).After-mend_shelves-lower)

pub mend_shelves-upper-requires-clause-ended : goal.mend_shelves-upper-requires-clause-ended
mend_shelves-upper-requires-clause-ended c =
    let f = c.args.f.now in
    let item = c.args.item.now in
    let mid = c.mend_shelves-lower.new.table in
    subst (λ (m : ShelfMen). AllEnded f.part mid (record { number = item.first + f.half; men = m; side = item.side; targeted = true }) item.targeted_ended) (sym c.requires.men)
    (upper_ended f c.args.table.now item c.requires.item c.requires.table.class_is mid
    (lower (goal.at.mend_shelves-upper-requires-clause-ended c).After-mend_shelves-lower) c.if-f-eq0.false)

pub returns-clause-mended : goal.returns-clause-mended
returns-clause-mended c =
    let at = goal.at.returns-clause-mended c in
    both_mended c.args.f.now c.args.table.now c.args.item.now c.requires.item c.requires.table.class_is _
    (lower at.After-mend_shelves-lower) c.if-f-eq0.false _ (upper at.After-mend_shelves-upper)

pub returns-clause-item : goal.returns-clause-item
returns-clause-item c = λ told.
    let f = c.args.f.now in
    let item = c.args.item.now in
    let old = c.args.table.now in
    let mid = c.mend_shelves-lower.new.table in
    let new = c.mend_shelves-upper.new.table in
    let both = c.together.ensures.told told in
    let first = lower (goal.at.returns-clause-item c).After-mend_shelves-lower in
    let second = upper (goal.at.returns-clause-item c).After-mend_shelves-upper in
    record {
      room = c.requires.item.room;
      leaving = c.requires.item.leaving;
      plain = c.requires.item.plain;
      targeted = c.requires.item.targeted;
      ended = lower_ended f old item c.requires.item c.requires.table.class_is mid first c.if-f-eq0.false new second c.mend_shelves-lower.new.ended
          (subst (λ (m : ShelfMen). AllEnded f.part mid (record { number = item.first; men = m; side = item.side; targeted = false }) c.mend_shelves-lower.new.ended) c.requires.men (c.mend_shelves-lower.ensures.ended both.0));
      targeted_ended = λ some. subst (λ (m : ShelfMen). AllEnded f.part new (record { number = item.first + f.half; men = m; side = item.side; targeted = true }) c.mend_shelves-upper.new.ended) c.requires.men (c.mend_shelves-upper.ensures.ended both.1);
    }

pub returns-clause-right : goal.returns-clause-right
returns-clause-right c = λ told.
    let f = c.args.f.now in
    let item = c.args.item.now in
    let old = c.args.table.now in
    let scores = c.args.scores.now in
    let mid = c.mend_shelves-lower.new.table in
    let new = c.mend_shelves-upper.new.table in
    let both = c.together.ensures.told told in
    let first = lower (goal.at.returns-clause-right c).After-mend_shelves-lower in
    let second = upper (goal.at.returns-clause-right c).After-mend_shelves-upper in
    record {
      plain = lower_right f old item c.requires.item c.requires.table.class_is mid first c.if-f-eq0.false new second scores.plain.value scores.clocks.value
          (subst (λ (m : ShelfMen). AreRightRows f.part mid (record { number = item.first; men = m; side = item.side; targeted = false }) scores.plain.value scores.clocks.value (kind_digits m.first.kind)) c.requires.men
          (subst (λ (s : List (List ℕ)). AreRightRows f.part mid (record { number = item.first; men = c.args.men.now; side = item.side; targeted = false }) s scores.clocks.value (kind_digits c.args.men.now.first.kind)) c.deref.ensures
          (subst (λ (s : List (List ℕ)). AreRightRows f.part mid (record { number = item.first; men = c.args.men.now; side = item.side; targeted = false }) c.deref.result.now s (kind_digits c.args.men.now.first.kind)) c.deref-2.ensures (c.mend_shelves-lower.ensures.right both.0))));
      targeted = λ some. subst (λ (m : ShelfMen). AreRightRows f.part new (record { number = item.first + f.half; men = m; side = item.side; targeted = true }) scores.targeted.value scores.targeted_clocks.value (kind_digits m.first.kind)) c.requires.men
          (subst (λ (s : List (List ℕ)). AreRightRows f.part new (record { number = item.first + f.half; men = c.args.men.now; side = item.side; targeted = true }) s scores.targeted_clocks.value (kind_digits c.args.men.now.first.kind)) c.deref-3.ensures
          (subst (λ (s : List (List ℕ)). AreRightRows f.part new (record { number = item.first + f.half; men = c.args.men.now; side = item.side; targeted = true }) c.deref-3.result.now s (kind_digits c.args.men.now.first.kind)) c.deref-4.ensures (c.mend_shelves-upper.ensures.right both.1)));
    }
