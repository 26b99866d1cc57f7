use Rattle.std.proofs.Common.{◌≡◌, ◌∙◌, arith, ap, inl, inr, subst, slice_index, slice_set}
use Rattle.egt_sweep.specs.FillPrelude.{cases_eq, get_or-set_other, get_or-set_same, length-set, IsVoid}
use Rattle.egt_sweep.proofs.begun.drawn_column.Goals as goal

pub loop-code-preserved : goal.loop-code-preserved
loop-code-preserved c =
    let l = c.loop-code in
    let items = l.entries.items in
    let entry = c.drawn_entry.result in
    let long = l.invariant.0 in
    let under = c.loop-code-test.true in
    let size = c.size-code-end.ensures in (
      length-set items l.code entry ∙ long,
      λ i below. elim (cases_eq i l.code) [
        | inl here ↦
            let is : slice_index (slice_set items l.code entry) i ≡ entry = ap (slice_index (slice_set items l.code entry)) here ∙ get_or-set_same items l.code entry 0 (omega (arith, long, under, size)) in
            record {
              void = λ void. is ∙ c.drawn_entry.ensures.void (subst (IsVoid c.args.class) here void);
              index = λ index. is ∙ c.drawn_entry.ensures.index (subst (λ k. ¬ IsVoid c.args.class k) here index);
            }
        | inr other ↦
            let before = l.invariant.1 i (omega (arith, below, other)) in
            let same : slice_index (slice_set items l.code entry) i ≡ slice_index items i = get_or-set_other items l.code i entry 0 other in
            record { void = λ void. same ∙ before.void void; index = λ index. same ∙ before.index index }
      ],
    )
