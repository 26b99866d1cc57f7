use Rattle.std.proofs.Common.{◌<◌, sym, subst}
use Rattle.egt_check.specs.Prelude.{size_of, HasEntry, beside, table_at}
use Rattle.egt_check.proofs.Told.{entry_there}
use Rattle.egt_check.proofs.successors.entries_in.Goals as goal

pub entries_at-requires : goal.entries_at-requires
entries_at-requires c = subst (λ k. c.args.place.index < size_of k) (sym c.table_of.ensures.class) c.requires.below

pub returns : goal.returns
returns c = λ metric q at.
    let tables = beside (table_at c.args.library.now) c.args.table.now in
    subst (HasEntry tables metric q) (sym (c.entries_at.ensures metric))
    (entry_there tables metric c.table_of.result.now c.args.place.class at.flipped q c.args.place.index at.below
    c.table_of.ensures.found at.of at.is_index)
