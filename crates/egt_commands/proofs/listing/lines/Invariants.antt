use Rattle.std.specs.Prelude.{◌≡◌}
use Rattle.egt_commands.specs.Prelude.{lines_below}
use Rattle.egt_commands.proofs.listing.lines.Given as goal

abbrev pub invariant-loop-number : goal.invariant-loop-number
invariant-loop-number l = l.text.items ≡ lines_below l.number
