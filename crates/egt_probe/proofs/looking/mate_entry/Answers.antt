use Rattle.std.proofs.Common.{Option, IfSome, subst}
use Rattle.egt_probe.specs.Prelude.{IsShelved, table_at}
use Rattle.egt_probe.proofs.Shelved.{index_there, shows_value}
use Rattle.egt_probe.proofs.looking.mate_entry.Goals as goal

pub entry-requires-clause-index : goal.entry-requires-clause-index
entry-requires-clause-index c =
    let shelved = subst (λ (o : Option _). IfSome o (λ t. IsShelved (table_at c.args.library.now) c.of-class.result.0 t.now)) c.unwrap-table.ensures c.get.ensures.shelved in
    let table = c.unwrap-table.result.now in
    c.facts.ensures.index_below c.args.position.now table.class c.index-index.result (index_there (table_at c.args.library.now) c.of-class.result.0 table shelved c.args.position.now c.index-index.result c.index-index.ensures)

pub returns : goal.returns
returns c =
    let shelved = subst (λ (o : Option _). IfSome o (λ t. IsShelved (table_at c.args.library.now) c.of-class.result.0 t.now)) c.unwrap-table.ensures c.get.ensures.shelved in
    let here = index_there (table_at c.args.library.now) c.of-class.result.0 c.unwrap-table.result.now shelved c.args.position.now c.index-index.result c.index-index.ensures in
    shows_value c.unwrap-table.result.now shelved.true c.args.position.now c.index-index.result c.entry.result c.side-side.ensures.admissible here c.entry.ensures
