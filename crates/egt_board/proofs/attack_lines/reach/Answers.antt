use Rattle.egt_board.proofs.Hiding.{sees}
use Rattle.egt_board.proofs.attack_lines.reach.Goals as goal

pub returns : goal.returns
returns c = λ t t_in. sees c.args.man c.args.from c.args.occupied.bits c.lone_reach.result.bits c.lone_reach.ensures t _ t_in (c.seen.ensures t)
