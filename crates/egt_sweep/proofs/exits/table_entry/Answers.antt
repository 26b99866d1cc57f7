use Rattle.std.proofs.Common.{◌≡◌, ℕ, ◌<◌, Option, IfSome, sym, subst}
use Rattle.egt_sweep.specs.Prelude.{Mate, TableValue, IsIndex, size_of, Shows, IsShelved, table_at, entry_at}
use Rattle.egt_sweep.proofs.OutOfClass.{mapped_some, mapped_found}
use Rattle.egt_sweep.proofs.exits.table_entry.Goals as goal

pub unwrap-table-requires : goal.unwrap-table-requires
unwrap-table-requires c = mapped_some _ c.get.result (table_at c.args.library.now c.args.class) c.get.ensures.is c.requires.there

pub entry-requires-clause-index : goal.entry-requires-clause-index
entry-requires-clause-index c =
    let shelved = subst (λ (o : Option _). IfSome o (λ t. IsShelved (table_at c.args.library.now) c.args.class t.now)) c.unwrap-table.ensures c.get.ensures.shelved in
    subst (λ (d : ℕ). c.args.index < size_of d) (sym shelved.class) (c.laws.ensures.facts.index_below c.requires.indexed.position c.args.class c.args.index c.requires.indexed.index)

pub returns-clause-shows : goal.returns-clause-shows
returns-clause-shows c =
    let shelved = subst (λ (o : Option _). IfSome o (λ t. IsShelved (table_at c.args.library.now) c.args.class t.now)) c.unwrap-table.ensures c.get.ensures.shelved in
    let at = c.requires.indexed in
    let told = shelved.true.true Mate at.position c.args.index at.admissible (subst (λ (d : ℕ). IsIndex d at.position c.args.index) (sym shelved.class) at.index) in
    (told.0, subst (λ (x : ℕ). Shows x told.0) (sym c.entry.ensures) told.2)

pub returns-clause-is : goal.returns-clause-is
returns-clause-is c =
    let found = mapped_found _ c.get.result c.unwrap-table.result (table_at c.args.library.now c.args.class) c.get.ensures.is c.unwrap-table.ensures in
    subst (λ (o : Option TableValue). IfSome o (λ t. c.entry.result ≡ entry_at t Mate c.args.index)) (sym found) c.entry.ensures
