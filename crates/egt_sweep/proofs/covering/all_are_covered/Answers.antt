use Rattle.std.proofs.Common.{◌≡◌, ◌+◌, ◌*◌, arith, inl, inr, subst, sym}
use Rattle.egt_sweep.specs.FillPrelude.{cases_lt, White, Black, ArePairs, AreJudged, AreAllJudged, tables_with}
use Rattle.egt_sweep.proofs.covering.all_are_covered.Goals as goal

pub loop-pair-preserved : goal.loop-pair-preserved
loop-pair-preserved c = λ pair side under. elim (cases_lt pair c.loop-pair.pair) [
  | inl before ↦ c.loop-pair.invariant pair side before
  | inr here ↦
      let f = c.args.filling.now in
      let t = c.args.table.now in
      let step = c.in-Some.pairs.step in
      let same : c.loop-pair.pair ≡ pair = omega (arith, under, here) in
      let judged = elim side as (λ s. AreAllJudged f t (c.loop-pair.pair * step) s) [
        | White ↦ c.pair_is_covered.ensures c.if-not-pair_is_covered.false
        | Black ↦ c.pair_is_covered-else-not-pair_is_covered.ensures c.if-not-pair_is_covered-2.false
      ] in
      subst (λ n. AreAllJudged f t (n * step) side) same judged
]

pub returns : goal.returns
returns c = λ _.
    let f = c.args.filling.now in
    let t = c.args.table.now in
    let tables = tables_with f t in
    let pairs = c.in-Some.pairs in
    let own = c.requires.own in
    let past = c.loop-pair-test.false in
    c.judged_pairs_hold_all_codes.ensures.all f.part tables t f.men pairs (subst (λ k. ArePairs k f.men pairs) (sym own.class_is) c.in-Some.ensures)
    (λ side pair below.
    subst (λ half. AreJudged f.part tables t f.men (pair * pairs.step) side × AreJudged f.part tables t f.men (pair * pairs.step + half) side) (sym c.if-pairs-filling.false)
    (c.loop-pair.invariant pair side (omega (arith, past, below))))
