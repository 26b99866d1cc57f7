use Rattle.std.proofs.Common.{◌*◌, ◌∙◌, ap, refl, sym, ℕ, List, slice_index}
use Rattle.egt_check.specs.Prelude.{places}
use Rattle.egt_check.proofs.RowRead.{of_pawn, of_piece}
use Rattle.egt_check.proofs.rows.plain_row.Goals.{then-is_pawn, else-is_pawn}
use Rattle.egt_check.proofs.rows.plain_row.Goals as goal

pub returns : goal.returns
returns c =
    let len : ℕ = 2 * c.last_digits.result in
    let len_is = ap (λ k. 2 * k) (c.last_digits.ensures.is ∙ ap (λ k. places k) c.class.ensures.class) in
    elim c.if-is_pawn.branch [
      | then-is_pawn w ↦
          of_pawn c.args.table.now c.args.column c.args.men.now c.args.shelf c.args.side c.requires.shelf c.entries.result.now c.if-is_pawn.loaded c.column_scores.result c.entries.ensures.entries c.column_scores.ensures c.requires.targets _ len (c.args.shelf * len) len_is refl refl
          (sym c.is_pawn.ensures ∙ w.if-is_pawn.true)
          (λ s from to. ap (λ (l : List ℕ). slice_index l s) w.loaded-is ∙ w.load_pawn-loaded.ensures.middle s from to) (λ s s_in edge. ap (λ (l : List ℕ). slice_index l s) w.loaded-is ∙ w.load_pawn-loaded.ensures.edge s s_in edge)
      | else-is_pawn w ↦
          of_piece c.args.table.now c.args.column c.args.men.now c.args.shelf c.args.side c.requires.shelf c.entries.result.now c.if-is_pawn.loaded c.column_scores.result c.entries.ensures.entries c.column_scores.ensures c.requires.targets _ len (c.args.shelf * len) len_is refl refl
          (sym c.is_pawn.ensures ∙ w.if-is_pawn.false) (λ s s_in. ap (λ (l : List ℕ). slice_index l s) w.loaded-is ∙ w.load-loaded.ensures s s_in)
    ]
