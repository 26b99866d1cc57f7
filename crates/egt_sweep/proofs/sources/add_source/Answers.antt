use Rattle.egt_sweep.proofs.Collecting.{members_on, members_off, untrue, back_on}
use Rattle.egt_sweep.proofs.sources.add_source.Goals as goal

pub returns-then-goes_back-clause-members : goal.returns-then-goes_back-clause-members
returns-then-goes_back-clause-members c k =
    let b = c.args.unmove.now.before in
    members_on (c.put.ensures.members k) (back_on c.args.metric c.args.class c.args.unmove.now c.index.result k (c.goes_back.ensures.0 c.if-goes_back.true) c.index.ensures
    (λ j is. c.laws.ensures.facts.one_index b c.args.class j c.index.result c.side-side.ensures.admissible is c.index.ensures))

pub returns-else-goes_back-clause-members : goal.returns-else-goes_back-clause-members
returns-else-goes_back-clause-members c k = members_off (λ from. untrue c.goes_back.result c.if-goes_back.false c.goes_back.ensures from.0)
