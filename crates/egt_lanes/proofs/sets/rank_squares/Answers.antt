use Rattle.std.specs.Prelude.{◌*◌, ◌/◌, ◌%◌, ◌^◌, ℕ, cond, eqb}
use Rattle.egt_lanes.specs.Prelude.{bit_at}
use Rattle.egt_lanes.proofs.Tests.{equals, passed, passes_below}
use Rattle.egt_lanes.proofs.sets.rank_squares.Goals as goal

pub returns : goal.returns
returns c s s_in =
    let bit : ℕ → ℕ → ℕ = λ r s. bit_at (255 * 2 ^ (8 * r) % 18446744073709551616) s in
    let on : ℕ → ℕ → ℕ = λ r s. cond (eqb (s / 8) r) 1 0 in
    let ranks = passed (λ r. passes_below (λ s. eqb (bit r s) (on r s)) 64) 8 tt c.args.rank c.requires in
    equals (bit c.args.rank s) (on c.args.rank s) (passed (λ s. eqb (bit c.args.rank s) (on c.args.rank s)) 64 ranks s s_in)
