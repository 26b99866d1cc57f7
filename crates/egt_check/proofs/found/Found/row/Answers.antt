use Rattle.std.proofs.Common.{◌≡◌, ◌∙◌, ◌<◌, ℕ, List, None, Some, ap, sym, subst, slice_index}
use Rattle.egt_check.specs.Prelude.{IsShelfOf, stand_with, TellsMen, IsRaised, TableValue, Column, column_score}
use Rattle.egt_check.specs.Prelude.{AreFound, table_told, CodeScores}
use Rattle.egt_table.specs.declared.column.Column.TheVariants as columns
use Rattle.egt_check.proofs.FoundTold.{mate_score, near_score, rows_read, zeroing_score}
use Rattle.egt_check.proofs.found.Found.row.Goals.{in-Some, in-Mate, in-Zeroing, in-Reach, in-None, in-Mate-column, in-Zeroing-column, in-Reach-column}
use Rattle.egt_check.proofs.found.Found.row.Goals as goal

pub row_of-requires-clause-shelf : goal.row_of-requires-clause-shelf
row_of-requires-clause-shelf c =
    let inside = c.self.inside in
    subst (λ (v : TableValue). IsShelfOf c.args.targeted v.class c.args.shelf c.args.men.now) (sym (ap (table_told inside.table inside.scores) (sym c.in-Some.is) ∙ c.self.view_is)) c.requires.shelf

pub row_of-requires-in-Mate-column-clause-shelf : goal.row_of-requires-in-Mate-column-clause-shelf
row_of-requires-in-Mate-column-clause-shelf c =
    let inside = c.self.inside in
    subst (λ (v : TableValue). IsShelfOf c.args.targeted v.class c.args.shelf c.args.men.now) (sym (ap (table_told inside.table inside.scores) (sym c.in-None.is) ∙ c.self.view_is)) c.requires.shelf

pub row_of-requires-in-Zeroing-column-clause-shelf : goal.row_of-requires-in-Zeroing-column-clause-shelf
row_of-requires-in-Zeroing-column-clause-shelf c =
    let inside = c.self.inside in
    subst (λ (v : TableValue). IsShelfOf c.args.targeted v.class c.args.shelf c.args.men.now) (sym (ap (table_told inside.table inside.scores) (sym c.in-None.is) ∙ c.self.view_is)) c.requires.shelf

pub returns : goal.returns
returns c =
    let inside = c.self.inside in
    let t = inside.table in
    let scores = inside.scores in
    let men = c.args.men.now in
    let shelf = c.args.shelf in
    let side = c.args.side in
    let targeted = c.args.targeted in
    let one = c.codes_tell_turned_men.ensures.one in
    let pawns = c.codes_tell_turned_men.ensures.pawns in
    elim c.match-self.branch [
      | in-Some w ↦
          let clocks : CodeScores = w.in-Some.clocks in
          let u : TableValue = table_told t scores (Some clocks) in
          let u_is : u ≡ c.args.self.now = ap (table_told t scores) (sym w.in-Some.is) ∙ c.self.view_is in
          let is = subst (λ (v : TableValue). IsShelfOf targeted v.class shelf men) (sym u_is) c.requires.shelf in
          let are = subst (AreFound t scores) w.in-Some.is c.self.invariant in
          subst (λ (v : TableValue). (s : ℕ) → s < 64 → IsRaised 0 (λ code. TellsMen targeted v.class code (stand_with men s) side) (column_score v c.args.column) (slice_index c.match-self.result s)) u_is
          (subst (λ (row : List ℕ). (s : ℕ) → s < 64 → IsRaised 0 (λ code. TellsMen targeted t.class code (stand_with men s) side) (column_score u c.args.column) (slice_index row s)) (sym w.result-is)
          (elim w.match-column.branch [
            | in-Mate w' ↦
                subst (λ (column : Column). (s : ℕ) → s < 64 → IsRaised 0 (λ code. TellsMen targeted t.class code (stand_with men s) side) (column_score u column) (slice_index w.match-column.result s)) (sym w'.in-Mate.is)
                (subst (λ (row : List ℕ). (s : ℕ) → s < 64 → IsRaised 0 (λ code. TellsMen targeted t.class code (stand_with men s) side) (column_score u columns.Mate) (slice_index row s)) (sym w'.result-is)
                (rows_read targeted u columns.Mate scores are.1.class_is (mate_score t scores clocks are.1) men shelf side is one pawns w'.row.result w'.row.ensures))
            | in-Zeroing w' ↦
                subst (λ (column : Column). (s : ℕ) → s < 64 → IsRaised 0 (λ code. TellsMen targeted t.class code (stand_with men s) side) (column_score u column) (slice_index w.match-column.result s)) (sym w'.in-Zeroing.is)
                (subst (λ (row : List ℕ). (s : ℕ) → s < 64 → IsRaised 0 (λ code. TellsMen targeted t.class code (stand_with men s) side) (column_score u columns.Zeroing) (slice_index row s)) (sym w'.result-is)
                (rows_read targeted u columns.Zeroing clocks are.2.class_is (zeroing_score t scores clocks are.2) men shelf side is one pawns w'.row-in-Zeroing.result w'.row-in-Zeroing.ensures))
            | in-Reach w' ↦
                subst (λ (column : Column). (s : ℕ) → s < 64 → IsRaised 0 (λ code. TellsMen targeted t.class code (stand_with men s) side) (column_score u column) (slice_index w.match-column.result s)) (sym w'.in-Reach.is)
                (subst (λ (row : List ℕ). (s : ℕ) → s < 64 → IsRaised 0 (λ code. TellsMen targeted t.class code (stand_with men s) side) (column_score u columns.Reach) (slice_index row s)) (sym w'.result-is)
                (subst (λ (column : Column). (s : ℕ) → s < 64 → IsRaised 0 (λ code. TellsMen targeted t.class code (stand_with men s) side) (column_score t column) (slice_index w'.row_of.result s)) w'.in-Reach.is w'.row_of.ensures))
          ]))
      | in-None w ↦
          let u : TableValue = table_told t scores None in
          let u_is : u ≡ c.args.self.now = ap (table_told t scores) (sym w.in-None.is) ∙ c.self.view_is in
          let is = subst (λ (v : TableValue). IsShelfOf targeted v.class shelf men) (sym u_is) c.requires.shelf in
          let are = subst (AreFound t scores) w.in-None.is c.self.invariant in
          subst (λ (v : TableValue). (s : ℕ) → s < 64 → IsRaised 0 (λ code. TellsMen targeted v.class code (stand_with men s) side) (column_score v c.args.column) (slice_index c.match-self.result s)) u_is
          (subst (λ (row : List ℕ). (s : ℕ) → s < 64 → IsRaised 0 (λ code. TellsMen targeted t.class code (stand_with men s) side) (column_score u c.args.column) (slice_index row s)) (sym w.result-is)
          (elim w.match-column-2.branch [
            | in-Mate-column w' ↦
                subst (λ (column : Column). (s : ℕ) → s < 64 → IsRaised 0 (λ code. TellsMen targeted t.class code (stand_with men s) side) (column_score u column) (slice_index w.match-column-2.result s)) (sym w'.in-Mate-column.is)
                (subst (λ (row : List ℕ). (s : ℕ) → s < 64 → IsRaised 0 (λ code. TellsMen targeted t.class code (stand_with men s) side) (column_score u columns.Mate) (slice_index row s)) (sym w'.result-is)
                (subst (λ (column : Column). (s : ℕ) → s < 64 → IsRaised 0 (λ code. TellsMen targeted t.class code (stand_with men s) side) (column_score t column) (slice_index w'.row_of-in-Mate-column.result s)) w'.in-Mate-column.is w'.row_of-in-Mate-column.ensures))
            | in-Zeroing-column w' ↦
                subst (λ (column : Column). (s : ℕ) → s < 64 → IsRaised 0 (λ code. TellsMen targeted t.class code (stand_with men s) side) (column_score u column) (slice_index w.match-column-2.result s)) (sym w'.in-Zeroing-column.is)
                (subst (λ (row : List ℕ). (s : ℕ) → s < 64 → IsRaised 0 (λ code. TellsMen targeted t.class code (stand_with men s) side) (column_score u columns.Zeroing) (slice_index row s)) (sym w'.result-is)
                (subst (λ (column : Column). (s : ℕ) → s < 64 → IsRaised 0 (λ code. TellsMen targeted t.class code (stand_with men s) side) (column_score t column) (slice_index w'.row_of-in-Zeroing-column.result s)) w'.in-Zeroing-column.is w'.row_of-in-Zeroing-column.ensures))
            | in-Reach-column w' ↦
                subst (λ (column : Column). (s : ℕ) → s < 64 → IsRaised 0 (λ code. TellsMen targeted t.class code (stand_with men s) side) (column_score u column) (slice_index w.match-column-2.result s)) (sym w'.in-Reach-column.is)
                (subst (λ (row : List ℕ). (s : ℕ) → s < 64 → IsRaised 0 (λ code. TellsMen targeted t.class code (stand_with men s) side) (column_score u columns.Reach) (slice_index row s)) (sym w'.result-is)
                (rows_read targeted u columns.Reach scores are.1.class_is (near_score t scores scores are.1) men shelf side is one pawns w'.row-in-Reach-column.result w'.row-in-Reach-column.ensures))
          ]))
    ]
