use Rattle.std.proofs.Common.{◌≡◌, ◌∙◌, ◌<◌, ℕ, Option, Some, IfSome, ap, subst, sym}
use Rattle.egt_sweep.specs.FillPrelude.{size_of, TableValue, TellColumn, table_told, AreDrawnOrNone, CodeScores}
use Rattle.egt_sweep.specs.FillPrelude.{HasNoVoidScore, IsDrawnIndex, HasBytes}
use Rattle.egt_table.specs.declared.column.Column.TheVariants as columns
use Rattle.egt_sweep.proofs.DrawnBytes.{values_known}
use Rattle.egt_sweep.proofs.DrawnEntries.{drawn_tell, drawn_told}
use Rattle.egt_sweep.proofs.begun.begun_values.Goals as goal

pub values-found-requires-clause-scores : goal.values-found-requires-clause-scores
values-found-requires-clause-scores c =
    let scores : CodeScores = c.in-Some.scores in
    let same : scores.class ≡ c.in-Ok.table.class = subst (λ (o : Option CodeScores). IfSome o (λ rows. rows.class ≡ c.args.class)) c.in-Some.is c.in_ok-scores.ensures.class ∙ sym (ap (λ (t : TableValue). t.class) c.in-Ok.ensures.table) in
    drawn_tell columns.Mate c.in-Ok.table.class scores same (c.class-scores.ensures.size ∙ ap (λ n. size_of n) same) (subst (λ (o : Option CodeScores). IfSome o AreDrawnOrNone) c.in-Some.is c.in_ok-scores.ensures.few)

pub values-found-requires-clause-clocks : goal.values-found-requires-clause-clocks
values-found-requires-clause-clocks c =
    let scores : CodeScores = c.in-Some.scores in
    let same : scores.class ≡ c.in-Ok.table.class = subst (λ (o : Option CodeScores). IfSome o (λ rows. rows.class ≡ c.args.class)) c.in-Some.is c.in_ok-scores.ensures.class ∙ sym (ap (λ (t : TableValue). t.class) c.in-Ok.ensures.table) in
    subst (TellColumn columns.Zeroing c.in-Ok.table.class) (sym c.in_ok-clocks.ensures)
    (drawn_tell columns.Zeroing c.in-Ok.table.class scores same (c.class-scores.ensures.size ∙ ap (λ n. size_of n) same) (subst (λ (o : Option CodeScores). IfSome o AreDrawnOrNone) c.in-Some.is c.in_ok-scores.ensures.few))

pub returns-clause-bytes : goal.returns-clause-bytes
returns-clause-bytes c =
    let scores : CodeScores = c.in-Some.scores in
    let table : TableValue = c.in-Ok.table in
    let known : table.class ≡ c.args.class = ap (λ (t : TableValue). t.class) c.in-Ok.ensures.table in
    let same : scores.class ≡ table.class = subst (λ (o : Option CodeScores). IfSome o (λ rows. rows.class ≡ c.args.class)) c.in-Some.is c.in_ok-scores.ensures.class ∙ sym known in
    let void = subst (λ (o : Option CodeScores). IfSome o HasNoVoidScore) c.in-Some.is c.in_ok-scores.ensures.void in
    let drawn = subst (λ n. (code : ℕ) → code < size_of n → IsDrawnIndex scores code) (sym known) (subst (λ (o : Option CodeScores). IfSome o (λ rows. (code : ℕ) → code < size_of c.args.class → IsDrawnIndex rows code)) c.in-Some.is c.in_ok-scores.ensures.drawn) in
    subst HasBytes (sym c.values-found.ensures)
    (subst (λ (clocks : CodeScores). HasBytes (table_told table scores (Some clocks))) (sym c.in_ok-clocks.ensures)
    (values_known (table_told table scores (Some scores)) (drawn_told columns.Mate table.class scores same void drawn) (drawn_told columns.Zeroing table.class scores same void drawn)))
