use Rattle.std.proofs.Common.{◌≡◌, ◌∙◌, arith, inl, inr, subst}
use Rattle.egt_lanes.specs.Prelude.{cases_eq, cases_lt, get_or-replicate, at}
use Rattle.egt_lanes.proofs.block.is_blank.Goals as goal

pub loop-i-preserved : goal.loop-i-preserved
loop-i-preserved c = λ a b a_in b_in. elim (cases_lt a c.loop-i.i) [
  | inl before ↦ c.loop-i.invariant a b before b_in
  | inr here ↦
      let same : c.loop-i.i ≡ a = omega arith in
      subst (λ k. at c.args.block.now k b ≡ 0) same (elim (cases_eq (at c.args.block.now c.loop-i.i b) 0) [
        | inl none ↦ none
        | inr some ↦ c.differ.ensures.alike c.if-differ.false b b_in some ∙ get_or-replicate 64 b 0 0 b_in
      ])
]
