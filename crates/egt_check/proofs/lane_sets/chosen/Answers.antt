use Rattle.std.proofs.Common.{◌≡◌, ◌∙◌, cond, eqb, get_or, replicate, subst, sym, arith}
use Rattle.egt_check.specs.Prelude.{other, select}
use lib.Lanes.{zip2}
use Rattle.egt_check.proofs.UnlikeRows.{chosen_at}
use Rattle.egt_check.proofs.lane_sets.chosen.Goals as goal

pub returns : goal.returns
returns c = λ s s_in.
    let mask = c.args.mask in
    let there = c.args.there in
    let rest = c.args.rest in
    subst (λ n. get_or (select (zip2 other mask (replicate n 0)) there rest) s 0 ≡ cond (eqb (get_or mask s 0) 0) (get_or rest s 0) (get_or there s 0)) c.fits-mask.0
    (chosen_at mask there rest s (let wide = c.fits-mask.0 in omega (arith, s_in, wide)) (c.fits-there.0 ∙ sym c.fits-mask.0) (c.fits-rest.0 ∙ sym c.fits-mask.0))
