use Rattle.std.proofs.Common.{◌≡◌, ℕ, ◌+◌, ◌-◌, ◌/◌, ◌%◌, ◌∙◌, ◌==◌, if◌then◌else◌, List, ◌++◌, get_or, length, map, refl, ap, inl, inr, replicate, sym, arith}
use Rattle.std.proofs.lemmas.Simd.{get_or-put_chunk_at, get_or-put_chunk_below, length-put_chunk}
use Rattle.egt_lanes.specs.Prelude.{cases_lt, range_with_len}
use lib.Lanes.{pick_l, put_chunk}
use Rattle.egt_lanes.proofs.Weaving.{turn_of, woven_at}
use Rattle.egt_lanes.proofs.load.woven.Goals as goal

pub returns : goal.returns
returns c i i_in =
    let white = c.args.white in
    let black = c.args.black in
    let low : List ℕ = pick_l 0 (white ++ black) (map turn_of (range_with_len 0 64)) in
    let high : List ℕ = pick_l 0 (white ++ black) (map turn_of (range_with_len 64 64)) in
    let first : List ℕ = put_chunk 0 (replicate 128 0) low in
    let long : length white ≡ 64 = c.fits-white.0 in
    elim (cases_lt i 64) [
      | inl less ↦
          let place : 0 + i ≡ i = omega arith in
          get_or-put_chunk_below 64 first high i 0 less ∙ ap (λ k. get_or first k 0) (sym place) ∙ get_or-put_chunk_at 0 (replicate 128 0) low i 0 less (omega arith)
          ∙ woven_at white black 0 i (i / 2) (omega arith) long (omega arith) refl tt less
      | inr past ↦
          let place : 64 + (i - 64) ≡ i = omega (arith, past) in
          let even : (i - 64) % 2 ≡ i % 2 = omega (arith, past) in
          ap (λ k. get_or (put_chunk 64 first high) k 0) (sym place) ∙ get_or-put_chunk_at 64 first high (i - 64) 0 (omega (arith, i_in, past)) (omega (arith, length-put_chunk 0 (replicate 128 0) low))
          ∙ woven_at white black 64 (i - 64) (i / 2) (omega (arith, past)) long (omega arith) refl tt (omega (arith, i_in, past)) ∙ ap (λ m. get_or (if m == 0 then white else black) (i / 2) 0) even
    ]
