use Rattle.std.proofs.Common.{◌≡◌, ◌∙◌, ℕ, arith, inl, inr, replicate, sym, slice_index}
use Rattle.egt_check.specs.Prelude.{bit_at, cases_eq, get_or-replicate, bit_at-lt}
use Rattle.egt_check.proofs.ByteJudged.{if_not, if_same}
use Rattle.egt_check.proofs.lane_sets.mask_of.Goals as goal

pub returns : goal.returns
returns c = λ s s_in.
    let bit : ℕ = bit_at c.args.lanes.bits s in
    let mask : ℕ = slice_index c.kept.result s in
    elim (cases_eq bit 0) [
      | inl none ↦
          let zero = c.kept.ensures s s_in ∙ if_not bit 1 (slice_index (replicate {A = ℕ} 64 1) s) 0 (λ one. omega (arith, none, one)) in
          none ∙ sym (if_same mask 0 0 1 zero)
      | inr some ↦
          let one : bit ≡ 1 = (let few = bit_at-lt c.args.lanes.bits s in omega (arith, few, some)) in
          let set = c.kept.ensures s s_in ∙ if_same bit 1 (slice_index (replicate {A = ℕ} 64 1) s) 0 one ∙ get_or-replicate 64 s 1 0 s_in in
          one ∙ sym (if_not mask 0 0 1 (λ zero. omega (arith, set, zero)))
    ]
