use Rattle.std.proofs.Common.{◌≡◌, refl, ap, ◌∙◌, arith}
use Rattle.egt_lanes.specs.Prelude.{Up, Down, beside}
use Rattle.egt_lanes.specs.declared.shift.TheConstants as table
use Rattle.egt_lanes.proofs.Moves.{moved_at, stays_at, beside-zero}
use Rattle.egt_lanes.proofs.shift.along_rank.Goals as goal
use Rattle.egt_lanes.proofs.shift.along_rank.Goals.{in-Up-eq1, in-Up-eq2, in-Down-eq1, in-Down-eq2, in_default, in_default-via-in-Up+in_default, in_default-via-in-Down+in_default, in_default-via-in_default}

pub returns : goal.returns
returns c s s_in =
    let none = λ (e : c.args.wide ≡ 0). ap (λ n. beside c.args.way n s) e ∙ beside-zero c.args.way s s_in in
    elim c.match-way.branch [
      | in-Up-eq1 w ↦ moved_at beside c.args.row c.match-way.result table.RIGHT Up c.args.way 1 c.args.wide c.fits-row.0 refl tt tt w.in-Up-eq1.is-0 w.in-Up-eq1.is-1 w.result-is s s_in
      | in-Up-eq2 w ↦ moved_at beside c.args.row c.match-way.result table.TWO_RIGHT Up c.args.way 2 c.args.wide c.fits-row.0 refl tt tt w.in-Up-eq2.is-0 w.in-Up-eq2.is-1 w.result-is s s_in
      | in-Down-eq1 w ↦ moved_at beside c.args.row c.match-way.result table.LEFT Down c.args.way 1 c.args.wide c.fits-row.0 refl tt tt w.in-Down-eq1.is-0 w.in-Down-eq1.is-1 w.result-is s s_in
      | in-Down-eq2 w ↦ moved_at beside c.args.row c.match-way.result table.TWO_LEFT Down c.args.way 2 c.args.wide c.fits-row.0 refl tt tt w.in-Down-eq2.is-0 w.in-Down-eq2.is-1 w.result-is s s_in
      | in_default w ↦ stays_at beside c.args.row c.match-way.result c.args.way c.args.wide s w.result-is (elim w.in_default.branch [
        | in_default-via-in-Up+in_default v ↦ none (omega arith)
        | in_default-via-in-Down+in_default v ↦ none (omega arith)
        | in_default-via-in_default v ↦ ap (λ way. beside way c.args.wide s) v.in_default.is-0
      ])
    ]
