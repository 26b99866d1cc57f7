use Rattle.std.proofs.Common.{◌≡◌, length, inl, inr, ◌∙◌, arith}
use Rattle.egt_lanes.specs.Prelude.{cases_lt, get_or_past, beside, beyond}
use Rattle.egt_lanes.proofs.Moves.{beside-leads, beyond-leads, away_by}
use Rattle.egt_lanes.proofs.shift.shifted.Goals as goal

pub returns-clause-off_board : goal.returns-clause-off_board
returns-clause-off_board c s s_in none =
    let step = c.args.step in
    let u = beside step.files step.wide s in
    let t = beyond step.ranks step.high u in
    let long : length c.along_file.result ≡ 64 = omega arith in
    c.along_rank.ensures s s_in ∙ elim (cases_lt u 64) [
      | inr past ↦ get_or_past c.along_file.result u 0 (omega arith)
      | inl u_in ↦ c.along_file.ensures u u_in ∙ elim (cases_lt t 64) [
        | inr past ↦ get_or_past c.args.row t 0 (omega arith)
        | inl t_in ↦
            let across = beside-leads step.files step.wide s s_in u_in in
            let along = beyond-leads step.ranks step.high u u_in t_in in
            absurd (none t (away_by step s u t t_in across.0 across.1 along.0 along.1))
      ]
    ]
