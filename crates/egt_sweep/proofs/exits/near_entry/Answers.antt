use Rattle.std.proofs.Common.{◌≡◌, ℕ, ◌<◌, ◌*◌, ◌-◌, ◌∙◌, Option, Some, IfSome, IsSome, refl, ap, sym, subst, arith}
use Rattle.egt_sweep.specs.Prelude.{Mate, TableValue, entries_or_none, IsIndex, size_of, IsShelved, near_entry}
use Rattle.egt_sweep.specs.Prelude.{ShowsReach, table_at, entry_at}
use Rattle.egt_sweep.proofs.NearEntries.{near_found, near_has, near_shown, near_of_entry, shown_range, slice_near}
use Rattle.egt_sweep.proofs.OutOfClass.{mapped_some, mapped_found}
use Rattle.egt_sweep.proofs.exits.near_entry.Goals as goal

pub unwrap-table-requires : goal.unwrap-table-requires
unwrap-table-requires c =
    let has = near_has (table_at c.args.library.now c.args.class) c.requires.there in
    mapped_some _ c.get.result (table_at c.args.library.now c.args.class) c.get.ensures.is (subst (λ (o : Option TableValue). IsSome o) (sym has.1) refl)

pub entry-requires-clause-there : goal.entry-requires-clause-there
entry-requires-clause-there c = grind (arith, near_has, table_at, mapped_found, c.requires.there, c.get.ensures.is, c.unwrap-table.ensures)

pub entry-requires-clause-index : goal.entry-requires-clause-index
entry-requires-clause-index c =
    let shelved = subst (λ (o : Option _). IfSome o (λ t. IsShelved (table_at c.args.library.now) c.args.class t.now)) c.unwrap-table.ensures c.get.ensures.shelved in
    subst (λ (d : ℕ). c.args.index < size_of d) (sym shelved.class) (c.laws.ensures.facts.index_below c.requires.indexed.position c.args.class c.args.index c.requires.indexed.index)

-- what the entry shows
shown : (c : goal.After-entry) → (number : Option ℕ) × ShowsReach c.entry.result number
shown c =
    let table = c.unwrap-table.result.now in
    let (u, found, reach) = near_has (table_at c.args.library.now c.args.class) c.requires.there in
    let is : Some u ≡ Some table = sym found ∙ mapped_found _ c.get.result c.unwrap-table.result (table_at c.args.library.now c.args.class) c.get.ensures.is c.unwrap-table.ensures in
    let same : u ≡ table = cc in
    let shelved = subst (λ (o : Option _). IfSome o (λ t. IsShelved (table_at c.args.library.now) c.args.class t.now)) c.unwrap-table.ensures c.get.ensures.shelved in
    let at = c.requires.indexed in
    let told = (shelved.true.reach (subst (λ (t : TableValue). IsSome t.reach) same reach)).true at.position c.args.index at.admissible (subst (λ (d : ℕ). IsIndex d at.position c.args.index) (sym shelved.class) at.index) in
    (told.0, subst (λ (x : ℕ). ShowsReach x told.0) (sym c.entry.ensures) told.2)

pub overflow_mul-result : goal.overflow_mul-result
overflow_mul-result c = let range = (let told = shown c in shown_range c.entry.result told.0 told.1) in omega (arith, range.1)

pub overflow_sub-result : goal.overflow_sub-result
overflow_sub-result c = let range = (let told = shown c in shown_range c.entry.result told.0 told.1) in omega (arith, range.0)

pub returns-clause-shows : goal.returns-clause-shows
returns-clause-shows c = let told = shown c in (near_of_entry told.0, near_shown c.entry.result told.0 told.1)

pub returns-clause-is : goal.returns-clause-is
returns-clause-is c =
    let table = c.unwrap-table.result.now in
    let places = table_at c.args.library.now in
    let (u, found, reach) = near_has (places c.args.class) c.requires.there in
    let here = mapped_found _ c.get.result c.unwrap-table.result (places c.args.class) c.get.ensures.is c.unwrap-table.ensures in
    let is : Some u ≡ Some table = sym found ∙ here in
    let same : u ≡ table = cc in
    let near = near_found places c.args.class table here (subst (λ (t : TableValue). IsSome t.reach) same reach) in
    subst (λ (o : Option TableValue). IfSome o (λ t. 2 * c.entry.result - 1 ≡ entry_at t Mate c.args.index)) (sym near)
    (ap near_entry c.entry.ensures ∙ sym (slice_near (entries_or_none table.reach) c.args.index))
