use Rattle.std.proofs.Common.{subst}
use Rattle.egt_index.specs.Prelude.{SettlesTo, Setup, HasStand, Best}
use Rattle.egt_index.proofs.Best.{best_at_last, index_found}
use Rattle.egt_index.proofs.ImageCodes.{settled_stand}
use Rattle.egt_index.proofs.indexing.index.Goals.{After-least_arranged}
use Rattle.egt_index.proofs.indexing.index.Goals as goal

-- the men of what the position settles to stand where its own do
has : (c : After-least_arranged) (q : Setup) → SettlesTo c.args.position.now q
    → HasStand c.args.class c.arrangement_of-arrangement.result.flipped c.arrangement_of-arrangement.result.stand c.side-side.result c.keeps_target-targeted.result q
has c q settles =
    let arrangement = c.arrangement_of-arrangement.result in
    settled_stand c.facts.ensures c.args.class arrangement.flipped c.args.position.now q arrangement.stand c.side-side.result c.keeps_target-targeted.result c.side-side.ensures.admissible
    c.arrangement_of-arrangement.ensures.is_of c.arrangement_of-arrangement.ensures.stood c.side-side.ensures.side (c.keeps_target-targeted.ensures q settles) settles

pub unwrap-requires : goal.unwrap-requires
unwrap-requires c =
    let settled = c.facts.ensures.settles c.args.position.now in
    let stands = has c settled.0 settled.1 in
    best_at_last c.facts.ensures c.args.class c.arrangement_of-arrangement.result.flipped settled.0 c.least_arranged.result stands.admissible stands.settled stands.is_of (c.least_arranged.ensures settled.0 stands)

pub returns : goal.returns
returns c =
    let p = c.args.position.now in
    let settled = c.facts.ensures.settles p in
    let stands = has c.before settled.0 settled.1 in
    index_found c.facts.ensures c.args.class p settled.0 c.unwrap.result stands.admissible settled.1
    (subst (Best c.args.class settled.0 16) c.unwrap.ensures (c.least_arranged.ensures settled.0 stands))
