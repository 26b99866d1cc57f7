use Rattle.std.proofs.Common.{◌≡◌, get_or, replicate, ◌%◌, ◌^◌, ◌/◌, length, bit_and, eqb, cond, ap, ◌∙◌, arith}
use Rattle.egt_lanes.specs.Prelude.{bit_at, get_or-zip2, length-zip2, get_or-replicate, FILE_BITS}
use lib.Lanes.{zip2}
use Rattle.egt_lanes.proofs.Rows.{same_at}
use Rattle.egt_lanes.proofs.RankBytes.{has_bit}
use Rattle.egt_lanes.proofs.Tests.{agreed}
use Rattle.egt_lanes.proofs.sets.kept.Goals as goal

pub returns : goal.returns
returns c s s_in =
    let bytes = c.rank_bytes.result in
    let long : length bytes ≡ 64 = omega arith in
    let place : get_or FILE_BITS s 0 ≡ 2 ^ (s % 8) = agreed (λ s. get_or FILE_BITS s 0) (λ s. 2 ^ (s % 8)) 64 tt s s_in in
    let both : get_or (zip2 bit_and bytes FILE_BITS) s 0 ≡ bit_and (c.args.set.bits / 256 ^ (s / 8) % 256) (2 ^ (s % 8)) =
    get_or-zip2 bit_and bytes FILE_BITS s 0 0 0 (omega arith) s_in ∙ ap (λ n. bit_and n (get_or FILE_BITS s 0)) (c.rank_bytes.ensures s s_in) ∙ ap (bit_and _) place in
    same_at (zip2 bit_and bytes FILE_BITS) FILE_BITS c.args.row (replicate 64 0) s (omega (arith, length-zip2 bit_and bytes FILE_BITS long)) s_in (omega arith) s_in
    ∙ ap (λ b. cond b (get_or c.args.row s 0) (get_or (replicate 64 0) s 0)) (ap (λ n. eqb n (get_or FILE_BITS s 0)) both ∙ ap (eqb _) place ∙ has_bit c.args.set.bits s s_in)
    ∙ ap (cond (eqb (bit_at c.args.set.bits s) 1) (get_or c.args.row s 0)) (get_or-replicate 64 s 0 0 s_in)
