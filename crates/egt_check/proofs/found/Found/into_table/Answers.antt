use Rattle.std.proofs.Common.{◌≡◌, ◌∙◌, None, Some, ap, sym, subst}
use Rattle.egt_check.specs.Prelude.{TableValue, AreFound, table_told, CodeScores}
use Rattle.egt_table.specs.declared.column.Column.TheVariants as columns
use Rattle.egt_check.proofs.FoundTold.{same_value, some_told}
use Rattle.egt_check.proofs.found.Found.into_table.Goals.{in-Some, in-None}
use Rattle.egt_check.proofs.found.Found.into_table.Goals as goal

pub returns : goal.returns
returns c =
    let t : TableValue = c.self.inside.table in
    let scores : CodeScores = c.self.inside.scores in
    elim c.match-self.branch [
      | in-Some w ↦
          let clocks : CodeScores = w.in-Some.clocks in
          let u_is : table_told t scores (Some clocks) ≡ c.args.self = ap (table_told t scores) (sym w.in-Some.is) ∙ c.self.view_is in
          let first = w.tell_column.ensures in
          let second = w.tell_column-in-Some.ensures in
          w.table-is
          ∙ same_value w.tell_column-in-Some.new.table (table_told t scores (Some clocks)) (second.kept.class ∙ first.kept.class) (second.kept.others columns.Mate (λ e. cc) ∙ first.told) second.told (second.kept.reach (λ e. cc) ∙ first.kept.reach (λ e. cc))
          ∙ u_is
      | in-None w ↦
          let u_is : table_told t scores None ≡ c.args.self = ap (table_told t scores) (sym w.in-None.is) ∙ c.self.view_is in
          let are = subst (AreFound t scores) w.in-None.is c.self.invariant in
          let first = w.tell_column-in-None.ensures in
          w.table-is
          ∙ same_value w.tell_column-in-None.new.table (table_told t scores None) first.kept.class (first.kept.others columns.Mate (λ e. cc)) (first.kept.others columns.Zeroing (λ e. cc)) (some_told _ _ (first.kept.there columns.Reach are.2) first.told)
          ∙ u_is
    ]
