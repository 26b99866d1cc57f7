use Rattle.egt_probe.proofs.Drawn.{held}
use Rattle.egt_probe.proofs.holding.holding_move.Goals as goal

pub unwrap-requires : goal.unwrap-requires
unwrap-requires c = held c.args.position.now c.drawing_move.result c.requires.moves c.drawing_move.ensures
