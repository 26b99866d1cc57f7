use Rattle.std.proofs.Common.{◌≡◌, ◌∙◌, ◌<◌, ℕ, None, ap, subst, sym}
use Rattle.egt_sweep.specs.FillPrelude.{size_of, TableValue, table_told, table_in, IsDrawnIndex, HasBytes}
use Rattle.egt_table.specs.declared.column.Column.TheVariants as columns
use Rattle.egt_check.specs.declared.part.Part.TheVariants as parts
use Rattle.egt_sweep.proofs.DrawnBytes.{reach_known}
use Rattle.egt_sweep.proofs.DrawnEntries.{drawn_told}
use Rattle.egt_sweep.proofs.begun.with_drawn_reach.Goals as goal

pub returns-clause-bytes : goal.returns-clause-bytes
returns-clause-bytes c =
    let scores = c.args.scores in
    let table : TableValue = c.in-Ok-with_reach.table in
    let known : table.class ≡ c.args.table.class = ap (λ (t : TableValue). t.class) c.in-Ok-with_reach.ensures.table in
    let drawn = subst (λ n. (code : ℕ) → code < size_of n → IsDrawnIndex scores code) (sym known) c.requires.drawn in
    subst (λ (t : TableValue). HasBytes (table_in parts.Reach t)) (sym c.reach-found.ensures)
    (reach_known (table_told table scores None) (drawn_told columns.Reach table.class scores (c.requires.class ∙ sym known) c.requires.void drawn))
