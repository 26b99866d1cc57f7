-- The library that C keeps.
use Rattle.std.specs.Prelude.{Bool, true, false, List, Option, Some, None}
use Rattle.std.specs.Arc.{arc_value}
use Rattle.egt_table.specs.Table.{TableValue}
use Rattle.egt_c.specs.declared.handle.EgtbLibrary.{EgtbLibrary}

-- of each class its table or none
abbrev pub Places : Type 0
Places = List (Option TableValue)

abbrev pub if_open : {A : Type 0} → Bool → A → Option A
if_open false a = None
if_open true a = Some a

abbrev pub contents : EgtbLibrary → Option Places
contents h = if_open h.is_open (arc_value h.library)
