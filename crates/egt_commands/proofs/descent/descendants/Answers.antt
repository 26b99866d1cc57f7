use Rattle.std.proofs.Common.{◌≡◌, ℕ, ◌<◌, ◌+◌, ◌-◌, false, replicate, sym, subst, ◌∙◌, arith}
use Rattle.egt_commands.specs.Prelude.{false≢true, children_of, IsMarked}
use Rattle.egt_commands.proofs.Marking.{Marks, IsMarkedFrom, marked_first, marked_next, none_marked, all_marked}
use Rattle.egt_commands.proofs.descent.descendants.Goals as goal

pub loop-above-init : goal.loop-above-init
loop-above-init c =
    let below : c.args.class < 36 = subst (λ (n : ℕ). n < 36) c.number-above.ensures.value c.number-above.ensures.below in
    subst (λ (n : ℕ). IsMarkedFrom c.args.class n c.mark_children.new.marks) (sym c.number-above.ensures.value)
    (marked_first c.args.class (replicate 36 false) c.mark_children.new.marks (λ d marked. false≢true (sym (none_marked 36 d) ∙ marked))
    (λ d child. c.children_have_smaller_numbers.ensures.smaller c.args.class d below child) c.mark_children.ensures)

pub loop-above-preserved-then-marks-from : goal.loop-above-preserved-then-marks-from
loop-above-preserved-then-marks-from c =
    let m = c.loop-above.above - 1 in
    let next : c.loop-above.above ≡ m + 1 = omega (arith, c.loop-above-test.true) in
    let below : m < 36 = (let bound = c.number-above.ensures.below in let value = c.number-above.ensures.value in let within = c.loop-above.invariant.within in omega arith) in
    let from = subst (λ (n : ℕ). IsMarkedFrom c.args.class n c.loop-above.marks) next c.loop-above.invariant in
    let marked = subst (λ (n : ℕ). IsMarked c.loop-above.marks n) c.from.ensures c.if-marks-from.true in
    let adds = subst (λ (n : ℕ). Marks c.loop-above.marks c.mark_children-then-marks-from.new.marks (children_of n)) c.at.ensures c.mark_children-then-marks-from.ensures in
    marked_next c.args.class m c.loop-above.marks c.mark_children-then-marks-from.new.marks
    (λ d child. c.children_have_smaller_numbers.ensures.smaller m d below child) from marked adds

pub returns : goal.returns
returns c =
    let end : c.loop-above.above ≡ 0 = omega (arith, c.loop-above-test.false) in
    let all = subst (λ (n : ℕ). IsMarkedFrom c.args.class n c.loop-above.marks) end c.loop-above.invariant in
    λ d. (all.sound d, all_marked c.args.class c.loop-above.marks all d)
