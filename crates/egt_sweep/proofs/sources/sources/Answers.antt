use Rattle.std.proofs.Common.{ℕ, ◌<◌, arith, subst, sym, List}
use Rattle.egt_sweep.specs.Prelude.{Contains, Unmove, ComesFrom}
use Rattle.egt_sweep.proofs.Backward.{before_class, sources_are}
use Rattle.egt_sweep.proofs.Collecting.{collected_start, collected_more, collected_all, members_then}
use Rattle.egt_sweep.proofs.sources.sources.Goals as goal

pub loop-unmove-init : goal.loop-unmove-init
loop-unmove-init c = collected_start (ComesFrom c.args.metric c.args.class) c.as_slice-unmove-items.result.now c.new-list.result.items c.new-list.ensures

pub add_source-requires-clause-of : goal.add_source-requires-clause-of
add_source-requires-clause-of c =
    let u = c.unmove-item.result in
    let has : Contains c.as_slice-unmove-items.result.now u = (c.loop-unmove.unmove-index, c.loop-unmove-test.true, sym c.unmove-item.is) in
    let listed = subst (λ (us : List Unmove). Contains us u) c.as_slice-unmove-items.ensures.value has in
    before_class c.laws.ensures c.args.class (subst (λ (n : ℕ). n < 36) c.number-number.ensures.value c.number-number.ensures.below) c.args.position.now u c.side-side.ensures.admissible c.requires.of ((c.unmoves-unmoves.ensures.exact u).0 listed)

pub loop-unmove-preserved : goal.loop-unmove-preserved
loop-unmove-preserved c = (
  c.add_source.ensures.ascending,
  omega (arith, c.add_source.ensures.few, c.loop-unmove.invariant.1),
  λ k. members_then (c.add_source.ensures.members k) (c.loop-unmove.invariant.2 k)
      (collected_more (ComesFrom c.args.metric c.args.class) c.as_slice-unmove-items.result.now c.loop-unmove.unmove-index c.unmove-item.result k c.loop-unmove-test.true c.unmove-item.is),
)

pub returns-clause-exact : goal.returns-clause-exact
returns-clause-exact c j at k =
    let items = c.as_slice-unmove-items.result.now in
    let below = subst (λ (n : ℕ). n < 36) c.number-number.ensures.value c.number-number.ensures.below in
    let all = collected_all (ComesFrom c.args.metric c.args.class) items c.loop-unmove.unmove-index k (omega (arith, c.loop-unmove-test.false)) in
    let are = sources_are c.laws.ensures c.args.class below c.args.metric c.args.position.now items c.unmoves-unmoves.result.items j k c.as_slice-unmove-items.ensures.value c.unmoves-unmoves.ensures.exact at in
    let here = c.loop-unmove.invariant.2 k in
    (λ h. are.0 (all.0 (here.0 h)), λ h. here.1 (all.1 (are.1 h)))
