use Rattle.std.proofs.Common.{◌∙◌, sym}
use Rattle.egt_sweep.specs.Prelude.{is_some, position_at}
use Rattle.egt_sweep.proofs.NodeTests.{found_told, denied}
use Rattle.egt_sweep.proofs.nodes.is_void.Goals as goal

pub returns : goal.returns
returns c = denied c.is_none.result (is_some (position_at c.args.class c.args.index))
    (sym c.is_none.ensures ∙ found_told c.laws.ensures c.args.class c.args.index c.position.result c.position.ensures.spells c.position.ensures.index c.position.ensures.void)
