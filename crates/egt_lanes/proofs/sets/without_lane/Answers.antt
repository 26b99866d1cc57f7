use Rattle.std.proofs.Common.{◌≡◌, get_or, replicate, eqb, cond, ap, ◌∙◌, arith}
use Rattle.egt_lanes.specs.Prelude.{get_or-replicate, SQUARES}
use Rattle.egt_lanes.proofs.Rows.{same_at}
use Rattle.egt_lanes.proofs.Tests.{agreed}
use Rattle.egt_lanes.proofs.sets.without_lane.Goals as goal

pub returns : goal.returns
returns c s s_in =
    let square = c.number.result in
    let here : get_or SQUARES s 0 ≡ s = agreed (λ s. get_or SQUARES s 0) (λ s. s) 64 tt s s_in in
    let there : get_or (replicate 64 square) s 0 ≡ c.args.square = get_or-replicate 64 s square 0 s_in ∙ c.number.ensures.value in
    same_at SQUARES (replicate 64 square) (replicate 64 0) c.args.row s s_in s_in s_in (omega arith)
    ∙ ap (λ b. cond b (get_or (replicate 64 0) s 0) (get_or c.args.row s 0)) (ap (λ n. eqb n (get_or (replicate 64 square) s 0)) here ∙ ap (eqb s) there)
    ∙ ap (λ z. cond (eqb s c.args.square) z (get_or c.args.row s 0)) (get_or-replicate 64 s 0 0 s_in)
