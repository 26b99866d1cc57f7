use Rattle.egt_sweep.proofs.LanesPut.{lanes_mended, put_told}
use Rattle.egt_sweep.proofs.mending.put_lanes.Goals as goal

pub returns-clause-mended : goal.returns-clause-mended
returns-clause-mended c = lanes_mended c.args.table.now c.put.new.self c.args.shelf.now c.args.lanes c.args.scores c.args.clocks c.args.part c.put.result c.requires.bytes c.put.ensures.put c.put.ensures.kept c.put.ensures.indexes c.put.ensures.told

pub returns-clause-put : goal.returns-clause-put
returns-clause-put c = λ told digit below has. put_told c.args.part c.put.new.self _ _ _ (c.put.ensures.told told digit below has)
