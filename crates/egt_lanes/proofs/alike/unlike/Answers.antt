use Rattle.std.proofs.Common.{◌≡◌, get_or, arith, subst}
use Rattle.egt_lanes.specs.Prelude.{AreVoidOrAlike}
use Rattle.egt_lanes.proofs.LanesCompared.{alike_at, unlike}
use Rattle.egt_lanes.proofs.alike.unlike.Goals as goal

pub returns : goal.returns
returns c i i_in =
    let long = c.fits-mate.0 in
    let also = c.fits-zeroing.0 in
    subst (λ n. get_or (unlike n c.args.mate c.args.zeroing) i 0 ≡ 0 → AreVoidOrAlike (get_or c.args.mate i 0) (get_or c.args.zeroing i 0)) long
    (alike_at c.args.mate c.args.zeroing i (omega (arith, long, i_in)) (omega (arith, long, also)) c.fits-mate.1 c.fits-zeroing.1)
