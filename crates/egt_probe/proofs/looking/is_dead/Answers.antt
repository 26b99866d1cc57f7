use Rattle.std.proofs.Common.{ap, Some}
use Rattle.egt_probe.proofs.DeadOrNot.{shows_dead, shows_alive, stalemate_if_dead}
use Rattle.egt_probe.proofs.looking.is_dead.Goals as goal

pub entry-requires-clause-index : goal.entry-requires-clause-index
entry-requires-clause-index c = c.facts.ensures.index_below c.args.position.now c.args.table.now.class c.args.index c.requires.index

pub returns-then-entry-ne-DEAD : goal.returns-then-entry-ne-DEAD
returns-then-entry-ne-DEAD c column dead =
    let there = c.has_reach.ensures.0 c.if-not-has_reach.false in
    absurd (shows_alive c.args.table.now (c.requires.truth.reach there) c.args.position.now c.args.index c.entry.result c.side-side.ensures.admissible c.requires.index c.entry.ensures c.if-entry-ne-DEAD.true dead)

pub returns-in-HasMove : goal.returns-in-HasMove
returns-in-HasMove c =
    let there = c.has_reach.ensures.0 c.if-not-has_reach.false in (
      ap Some there,
      shows_dead c.args.table.now (c.requires.truth.reach there) c.args.position.now c.args.index c.entry.result c.side-side.ensures.admissible c.requires.index c.entry.ensures c.if-entry-ne-DEAD.false,
      c.in-HasMove.ensures,
    )

pub returns-in_default : goal.returns-in_default
returns-in_default c column = stalemate_if_dead c.args.position.now c.standing.result c.standing.ensures c.in_default.not-HasMove
