use Rattle.std.proofs.Common.{arith, subst}
use Rattle.egt_unmoves.specs.Prelude.{IsFree, Reaches, attacks_back}
use Rattle.egt_unmoves.proofs.sources.attackers.Goals as goal

pub returns-clause-attackers : goal.returns-clause-attackers
returns-clause-attackers c = λ s s_in.
    let back = attacks_back c.args.left.now c.args.man s c.args.square c.reach_passes_over_its_end.ensures s_in (omega arith) in
    let reached = c.reach.ensures.reached s in (
      λ has. back.0 (subst (λ x. Reaches (IsFree c.args.left.now) x c.args.square s) c.facing.ensures (reached.0 has)),
      λ attacks. reached.1 (rw c.facing.ensures (back.1 attacks)),
    )
