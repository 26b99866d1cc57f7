use Rattle.std.proofs.Common.{◌*◌, ◌+◌, ◌/◌, ◌∙◌, ap, refl}
use Rattle.egt_check.specs.Prelude.{code_of, places, bit_of, first_of_shelf}
use Rattle.egt_check.proofs.RowRead.{of_targets}
use Rattle.egt_check.proofs.rows.target_row.Goals as goal

pub returns : goal.returns
returns c =
    let t = c.args.table.now in
    let men = c.args.men.now in
    let first = ap (λ n. n + bit_of c.args.targeted) (c.first_of_targets-first.ensures.first ∙ ap (λ k. code_of k (c.args.shelf * (2 * places k)) / 2 * 2) c.class.ensures.class) ∙ first_of_shelf t.class c.args.shelf c.requires.targets c.requires.within men c.args.targeted c.requires.shelf in
    of_targets t c.args.column men c.args.shelf c.args.side c.requires.shelf.0 c.entries.result.now c.load_target.result c.column_scores.result c.entries.ensures.entries c.column_scores.ensures c.args.targeted c.requires.targets c.requires.within _ c.first_of_targets-first.result first refl
    c.load_target.ensures.middle c.load_target.ensures.edge
