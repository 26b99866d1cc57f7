use Rattle.std.proofs.Common.{◌∙◌, ap, sym, ℕ, List, slice_index}
use Rattle.egt_check.proofs.LoneEntries.{of_pawn, of_piece}
use Rattle.egt_check.proofs.table_scores.lone_row_of.Goals.{then-is_pawn, else-is_pawn}
use Rattle.egt_check.proofs.table_scores.lone_row_of.Goals as goal

pub returns : goal.returns
returns c =
    let laws = c.codes_tell_turned_men.ensures in
    elim c.if-is_pawn.branch [
      | then-is_pawn w ↦ λ s s_in.
          of_pawn c.args.table.now c.args.column c.args.man c.args.white c.args.black c.args.first c.args.side c.requires.lone laws.one laws.pawns c.entries-entries.result.now c.if-is_pawn.loaded c.entries-entries.ensures.entries
          (sym c.is_pawn.ensures ∙ w.if-is_pawn.true) c.column_scores.result s s_in
          (λ from to. ap (λ (l : List ℕ). slice_index l s) w.loaded-is ∙ w.load_pawn-loaded.ensures.middle s from to) (λ edge. ap (λ (l : List ℕ). slice_index l s) w.loaded-is ∙ w.load_pawn-loaded.ensures.edge s s_in edge) (c.column_scores.ensures s s_in)
      | else-is_pawn w ↦ λ s s_in.
          of_piece c.args.table.now c.args.column c.args.man c.args.white c.args.black c.args.first c.args.side c.requires.lone laws.one laws.pawns c.entries-entries.result.now c.if-is_pawn.loaded c.entries-entries.ensures.entries
          (sym c.is_pawn.ensures ∙ w.if-is_pawn.false) c.column_scores.result s s_in (ap (λ (l : List ℕ). slice_index l s) w.loaded-is ∙ w.load-loaded.ensures s s_in) (c.column_scores.ensures s s_in)
    ]
