use Rattle.std.proofs.Common.{◌≡◌, ℕ, List, sym, subst, ◌∙◌}
use Rattle.egt_check.specs.Prelude.{Contains, IsStrictlyIncreasing, children_of, LacksReach, table_at, first_is_least}
use Rattle.egt_check.proofs.checking.first_lacking.Goals as goal

pub returns-then-lacks_reach-clause-some : goal.returns-then-lacks_reach-clause-some
returns-then-lacks_reach-clause-some c =
    let tables = table_at c.args.library.now in
    let xs = c.as_slice-child-items.result.now in
    let n = c.loop-child.child-index in
    let d = c.child-item.result in
    let is : xs ≡ children_of c.args.class = c.as_slice-child-items.ensures.value ∙ c.children-children.ensures in
    let first = first_is_least xs (λ (e : ℕ). LacksReach (tables e)) n d (subst IsStrictlyIncreasing (sym is) (c.children_have_smaller_numbers.ensures.ascending c.args.class)) c.loop-child-test.true c.child-item.is c.loop-child.invariant in
    record {
      child = subst (λ (l : List ℕ). Contains l d) is (n, c.loop-child-test.true, sym c.child-item.is);
      lacks = c.lacks_reach.ensures.0 c.if-lacks_reach.true;
      first = λ e child lacks. first e (subst (λ (l : List ℕ). Contains l e) (sym is) child) lacks;
    }
