use Rattle.std.proofs.Common.{List, ℕ, sym, subst}
use Rattle.egt_check.specs.Prelude.{IsShelfRow, row_read, column_score}
use Rattle.egt_check.proofs.rows.row_of.Goals.{then-has_target, else-has_target}
use Rattle.egt_check.proofs.rows.row_of.Goals as goal

pub returns : goal.returns
returns c =
    let t = c.args.table.now in
    let men = c.args.men.now in
    let laws = c.codes_tell_turned_men.ensures in
    row_read c.args.targeted t.class (column_score t c.args.column) men c.args.shelf c.args.side c.requires.shelf laws.one laws.pawns c.if-has_target.result
    (elim c.if-has_target.branch [
      | then-has_target w ↦ subst (λ (row : List ℕ). IsShelfRow t.class (column_score t c.args.column) men c.args.shelf c.args.side row) (sym w.result-is) w.target_row.ensures
      | else-has_target w ↦ subst (λ (row : List ℕ). IsShelfRow t.class (column_score t c.args.column) men c.args.shelf c.args.side row) (sym w.result-is) w.plain_row.ensures
    ])
