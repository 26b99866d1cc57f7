-- The entries of the class itself.
use Rattle.egt_table.specs.Table.{TableValue}
use Rattle.egt_check.specs.declared.own.Entries.{Entries}
use Rattle.egt_check.specs.declared.own.Entries.TheVariants.{OfTable, OfFound}

abbrev pub entries_seen : Entries → TableValue
entries_seen (OfTable table) = table.now
entries_seen (OfFound found) = found.now
