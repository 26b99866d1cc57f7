use Rattle.egt_entries.specs.declared.metric.Metric.TheVariants.{Mate, Zeroing}
use Rattle.egt_probe.proofs.SameKinds.{same_kind}
use Rattle.egt_probe.proofs.Shelved.{told, true_outcome}
use Rattle.egt_probe.proofs.looking.decided_or_drawn.Goals as goal

pub entry-mate-requires-clause-index : goal.entry-mate-requires-clause-index
entry-mate-requires-clause-index c = c.facts.ensures.index_below c.args.position.now c.args.table.now.class c.args.index c.requires.index

pub entry-zeroing-requires-clause-index : goal.entry-zeroing-requires-clause-index
entry-zeroing-requires-clause-index c = c.facts.ensures.index_below c.args.position.now c.args.table.now.class c.args.index c.requires.index

pub outcome_shown-requires : goal.outcome_shown-requires
outcome_shown-requires c =
    let p = c.args.position.now in
    let tells = told c.args.table.now c.requires.truth in
    let mate = tells Mate p c.args.index c.entry-mate.result c.side.ensures.admissible c.requires.index c.entry-mate.ensures in
    let zeroing = tells Zeroing p c.args.index c.entry-zeroing.result c.side.ensures.admissible c.requires.index c.entry-zeroing.ensures in
    (mate.0, zeroing.0, mate.2, zeroing.2, same_kind c.facts.ensures p mate.0 zeroing.0 mate.1 zeroing.1)

pub returns : goal.returns
returns c =
    let shown = c.outcome_shown.ensures in
    let truly = true_outcome c.args.table.now c.requires.truth c.args.position.now c.args.index c.entry-mate.result c.entry-zeroing.result c.side.result c.outcome_shown.result c.side.ensures.admissible c.requires.index c.entry-mate.ensures
    c.entry-zeroing.ensures c.side.ensures.side shown.mate shown.zeroing in
    record { mate = truly.0; zeroing = truly.1; within = shown.within }
