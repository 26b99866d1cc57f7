use Rattle.egt_commands.specs.Prelude.{entries_of, Mate, shows, IsLongest}
use Rattle.egt_commands.proofs.tally.longest.Given as goal

abbrev pub invariant-loop-index : goal.invariant-loop-index
invariant-loop-index l = IsLongest (shows l.shown) (entries_of Mate l.table) l.index l.longest
