use Rattle.std.proofs.Common.{◌≡◌, ◌<◌, ◌∙◌, ◌*◌, ◌+◌, [], List, ℕ, ap, arith, length, sym, subst, slice_index}
use Rattle.std.proofs.Common.{slice_index_or}
use Rattle.egt_check.specs.Prelude.{get_or_default, side_number, kind_less, IsShelf, IsWithin, IsShelfRow, CodeScores}
use Rattle.egt_check.specs.Prelude.{scores_in}
use Rattle.egt_check.proofs.ScoreRowsRead.{shelf_read}
use Rattle.egt_check.proofs.score_rows.ScoreRows.row.Goals as goal

pub returns : goal.returns
returns c =
    let inside = c.self.inside in
    let rows = inside.rows.items in
    let men = c.args.men.now in
    let class = inside.class in
    let shelf = c.args.shelf in
    let laws = c.numbers_stand_for_codes.ensures in
    let is = subst (λ (v : CodeScores). IsShelf v.class shelf men) (sym c.self.view_is) c.requires.shelf in
    let within = subst (λ (v : CodeScores). IsWithin v.class shelf) (sym c.self.view_is) c.requires.within in
    let below : c.row_place.result < length rows = (let long = c.self.invariant.long in let at = c.row_place.ensures.within in omega (arith, long, at)) in
    let row_is : c.index.result.now ≡ slice_index_or rows (side_number c.args.side * inside.shelves + shelf) [] =
    c.index.ensures ∙ get_or_default rows c.row_place.result c.index.result.now [] below ∙ ap (λ p. slice_index_or rows p []) c.row_place.ensures.is in
    subst (λ (v : CodeScores). IsShelfRow v.class (slice_index v.scores) men shelf c.args.side c.index.result.now) c.self.view_is
    (subst (λ (row : List ℕ). IsShelfRow class (slice_index (scores_in class (kind_less inside.last.kind) inside.shelves rows)) men shelf c.args.side row) (sym row_is)
    (shelf_read class inside.shelves inside.last rows c.self.invariant men shelf c.args.side is within (λ n. laws.coded class n c.self.invariant.below) (λ n. laws.number class n c.self.invariant.below)))
