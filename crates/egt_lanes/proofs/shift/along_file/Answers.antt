use Rattle.std.proofs.Common.{◌≡◌, refl, ap, ◌∙◌, arith}
use Rattle.egt_lanes.specs.Prelude.{Up, Down, beyond}
use Rattle.egt_lanes.specs.declared.shift.TheConstants as table
use Rattle.egt_lanes.proofs.Moves.{moved_at, stays_at, beyond-zero}
use Rattle.egt_lanes.proofs.shift.along_file.Goals as goal
use Rattle.egt_lanes.proofs.shift.along_file.Goals.{in-Up-eq1, in-Up-eq2, in-Down-eq1, in-Down-eq2, in_default, in_default-via-in-Up+in_default, in_default-via-in-Down+in_default, in_default-via-in_default}

pub returns : goal.returns
returns c s s_in =
    let none = λ (e : c.args.high ≡ 0). ap (λ n. beyond c.args.way n s) e ∙ beyond-zero c.args.way s s_in in
    elim c.match-way.branch [
      | in-Up-eq1 w ↦ moved_at beyond c.args.row c.match-way.result table.UP Up c.args.way 1 c.args.high c.fits-row.0 refl tt tt w.in-Up-eq1.is-0 w.in-Up-eq1.is-1 w.result-is s s_in
      | in-Up-eq2 w ↦ moved_at beyond c.args.row c.match-way.result table.TWO_UP Up c.args.way 2 c.args.high c.fits-row.0 refl tt tt w.in-Up-eq2.is-0 w.in-Up-eq2.is-1 w.result-is s s_in
      | in-Down-eq1 w ↦ moved_at beyond c.args.row c.match-way.result table.DOWN Down c.args.way 1 c.args.high c.fits-row.0 refl tt tt w.in-Down-eq1.is-0 w.in-Down-eq1.is-1 w.result-is s s_in
      | in-Down-eq2 w ↦ moved_at beyond c.args.row c.match-way.result table.TWO_DOWN Down c.args.way 2 c.args.high c.fits-row.0 refl tt tt w.in-Down-eq2.is-0 w.in-Down-eq2.is-1 w.result-is s s_in
      | in_default w ↦ stays_at beyond c.args.row c.match-way.result c.args.way c.args.high s w.result-is (elim w.in_default.branch [
        | in_default-via-in-Up+in_default v ↦ none (omega arith)
        | in_default-via-in-Down+in_default v ↦ none (omega arith)
        | in_default-via-in_default v ↦ ap (λ way. beyond way c.args.high s) v.in_default.is-0
      ])
    ]
