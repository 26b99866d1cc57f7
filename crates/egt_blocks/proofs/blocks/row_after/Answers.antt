use Rattle.std.proofs.Common.{◌≡◌, ◌<◌, ◌+◌, inl, inr, refl, ◌/◌, ◌%◌, eqb, arith, sym, ap, ◌∙◌, subst, slice_index}
use Rattle.egt_blocks.specs.Prelude.{false≢true, get_or-replicate, MayStand, turned_side, turned_square, Side}
use Rattle.egt_blocks.specs.Prelude.{kind_digits, kind_less, IsShelfOf, stand_with, TellsMen, turned_by}
use Rattle.egt_blocks.specs.Prelude.{ShelfMen, IsRaised, men_on, stand_on, IsCodeAfter, IsRaisedAfter, turned_from}
use Rattle.egt_blocks.proofs.BlockRaising.{raised_by_none, turned_in}
use Rattle.egt_blocks.proofs.ShelfRuns.{digit_there}
use Rattle.egt_blocks.proofs.blocks.row_after.Goals as goal

pub overflow_add-shelf : goal.overflow_add-shelf
overflow_add-shelf g c = omega (arith, c.from.ensures, c.number.ensures.on_board, c.requires.room)

-- the shelf is that of the first man's square there
pub shelf_row-row-requires : goal.shelf_row-row-requires
shelf_row-row-requires g c =
    let number = g.S.ShelfScores.number c.args.source.now in
    let there : ShelfMen = c.turned_from-there.result in
    let after = turned_from c.args.men.now c.args.on c.args.turn in
    let is = c.turned_from-there.ensures in
    let digit = digit_there there.first there.on (omega (arith, c.number.ensures.on_board, c.number.ensures.value)) (c.may_stand.ensures.0 c.if-not-may_stand.false) in
    let low = digit.0 in
    let high = digit.1 in
    let below : c.from.result < kind_digits there.first.kind = omega (arith, c.from.ensures, c.number.ensures.value, c.first_square.ensures, low, high) in
    let square : c.from.result + kind_less there.first.kind ≡ there.on = omega (arith, c.from.ensures, c.number.ensures.value, c.first_square.ensures, low, high) in
    let shelf = c.requires.shelves c.from.result (subst (λ (men : ShelfMen). c.from.result < kind_digits men.first.kind) is below) in
    let on : c.from.result + kind_less after.first.kind ≡ after.on = subst (λ (men : ShelfMen). c.from.result + kind_less men.first.kind ≡ men.on) is square in
    record {
      there = c.requires.there;
      shelf = subst (λ (men : ShelfMen). IsShelfOf c.args.reading.now.targeted number (c.args.first + c.from.result) men) (ap (men_on after) on ∙ sym is) shelf.0;
      within = shelf.1;
    }

pub returns-then-not-contains : goal.returns-then-not-contains
returns-then-not-contains g c = λ b b_in here. absurd (false≢true (sym c.if-not-contains.true ∙ c.contains.ensures.1 here))

pub returns-then-not-may_stand : goal.returns-then-not-may_stand
returns-then-not-may_stand g c = λ b b_in _.
    let number = g.S.ShelfScores.number c.args.source.now in
    let worth = g.S.ShelfScores.worth c.args.source.now c.args.reading.now.column in
    let stand = stand_on c.args.men.now c.args.on b in
    subst (IsRaisedAfter c.args.reading.now.targeted number worth c.args.turn stand c.args.reading.now.side 0) (sym (get_or-replicate 64 b 0 0 b_in))
    (raised_by_none 0 (λ code. IsCodeAfter c.args.reading.now.targeted number c.args.turn code stand c.args.reading.now.side) worth
    (λ code tells.
    let may = c.codes_tell_turned_men.ensures.pawns c.args.reading.now.targeted number code (turned_by c.args.turn stand) (turned_side (eqb (c.args.turn / 8) 1) c.args.reading.now.side) c.args.men.now.first (turned_square (c.args.turn % 8) (eqb (c.args.turn / 8) 1) c.args.on) tells (inr (inr (inl (refl, refl)))) in
    let there = subst (λ (men : ShelfMen). MayStand men.first men.on) (sym c.turned_from-there.ensures) may in
    false≢true (sym c.if-not-may_stand.true ∙ c.may_stand.ensures.1 there)))

pub returns : goal.returns
returns g c = λ b b_in _.
    let number = g.S.ShelfScores.number c.args.source.now in
    let worth = g.S.ShelfScores.worth c.args.source.now c.args.reading.now.column in
    let flips = eqb (c.args.turn / 8) 1 in
    let s = turned_square (c.args.turn % 8) flips b in
    let row = slice_index c.shelf_row-row.result s in
    subst (IsRaisedAfter c.args.reading.now.targeted number worth c.args.turn (stand_on c.args.men.now c.args.on b) c.args.reading.now.side 0) (sym (c.turned.ensures b b_in))
    (subst (λ (men : ShelfMen). IsRaised 0 (λ code. TellsMen c.args.reading.now.targeted number code (stand_with men s) (turned_side flips c.args.reading.now.side)) worth row) c.turned_from-there.ensures
    (subst (λ (side : Side). IsRaised 0 (λ code. TellsMen c.args.reading.now.targeted number code (stand_with c.turned_from-there.result s) side) worth row) c.side_after-side.ensures
    (c.shelf_row-row.ensures s (turned_in flips (c.args.turn % 8) b (omega arith) b_in))))
