use Rattle.std.proofs.Common.{◌≡◌, get_or, replicate, ◌+◌, ◌*◌, ◌<◌, ◌^◌, ◌/◌, ◌∙◌, ap, refl, arith}
use Rattle.egt_lanes.specs.Prelude.{get_or_narrower, Each1-replicate, RANKS}
use lib.Lanes.{digits_l, number_l}
use Rattle.egt_lanes.proofs.Picks.{picked}
use Rattle.egt_lanes.proofs.sets.rank_bytes.Goals as goal

pub returns : goal.returns
returns c s s_in =
    let bits = c.args.set.bits in
    let fits : bits < 2 ^ 64 = omega arith in
    let bytes = digits_l 256 64 (number_l (2 ^ 64) (replicate 8 bits)) in
    let first : s / 8 ≡ 8 * 0 + s / 8 = omega arith in
    picked bytes bytes RANKS (λ s. s / 8) refl refl tt s s_in (omega arith) ∙ ap (λ i. get_or bytes i 0) first
    ∙ get_or_narrower (2 ^ 64) 8 256 64 (replicate 8 bits) 0 (s / 8) refl (Each1-replicate (λ x. x < 2 ^ 64) 8 bits fits) (omega arith) (omega arith)
