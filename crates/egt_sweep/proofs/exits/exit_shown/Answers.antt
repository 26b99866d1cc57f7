use Rattle.egt_sweep.proofs.OutOfClass.{exit_draw, exit_win, exit_loss}
use Rattle.egt_sweep.proofs.exits.exit_shown.Goals as goal

pub returns-then-entry-eq1 : goal.returns-then-entry-eq1
returns-then-entry-eq1 c = exit_draw c.args.metric c.args.entry c.requires.0 c.requires.1 c.if-entry-eq1.true

pub returns-then-entry-eq0 : goal.returns-then-entry-eq0
returns-then-entry-eq0 c = exit_win c.args.metric c.args.entry c.plies_left.result c.requires.0 c.requires.1 c.if-entry-eq0.true c.plies_left.ensures

pub returns-else-entry-eq0 : goal.returns-else-entry-eq0
returns-else-entry-eq0 c = exit_loss c.args.metric c.args.entry c.plies_left-else-entry-eq0.result c.requires.0 c.requires.1 c.if-entry-eq1.false c.if-entry-eq0.false c.plies_left-else-entry-eq0.ensures
