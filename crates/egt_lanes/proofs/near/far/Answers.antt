use Rattle.std.proofs.Common.{◌≡◌, get_or, arith, subst}
use Rattle.egt_lanes.specs.Prelude.{IsVoidOrNear}
use Rattle.egt_lanes.proofs.Nearness.{near_at, far}
use Rattle.egt_lanes.proofs.near.far.Goals as goal

pub returns : goal.returns
returns c i i_in =
    let long = c.fits-mate.0 in
    let also = c.fits-reach.0 in
    subst (λ n. get_or (far n c.args.mate c.args.reach) i 0 ≡ 0 → IsVoidOrNear (get_or c.args.mate i 0) (get_or c.args.reach i 0)) long
    (near_at c.args.mate c.args.reach i (omega (arith, long, i_in)) (omega (arith, long, also)) c.fits-reach.1)
