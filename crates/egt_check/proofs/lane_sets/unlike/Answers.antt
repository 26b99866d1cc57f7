use Rattle.std.proofs.Common.{◌≡◌, ◌∙◌, cond, eqb, get_or, replicate, subst, sym, arith}
use Rattle.egt_check.specs.Prelude.{other, select}
use lib.Lanes.{zip2}
use Rattle.egt_check.proofs.UnlikeRows.{unlike_at}
use Rattle.egt_check.proofs.lane_sets.unlike.Goals as goal

pub returns : goal.returns
returns c = λ s s_in.
    let a = c.args.a in
    let b = c.args.b in
    let within = c.args.within in
    subst (λ n. get_or (select (zip2 other a b) within (replicate n 0)) s 0 ≡ cond (eqb (get_or a s 0) (get_or b s 0)) 0 (get_or within s 0)) c.fits-a.0
    (unlike_at a b within s (let wide = c.fits-a.0 in omega (arith, s_in, wide)) (c.fits-b.0 ∙ sym c.fits-a.0) (c.fits-within.0 ∙ sym c.fits-a.0))
