-- The end of a run where no text could be made of a FEN.
use Rattle.egt_commands.specs.declared.fault.MovesFault.{MovesFault}
use Rattle.egt_commands.specs.declared.fault.MovesFault.TheVariants as texts
use Rattle.egt_commands.specs.declared.run_fault.RunFault.{RunFault}
use Rattle.egt_commands.specs.declared.run_fault.RunFault.TheVariants as runs

abbrev pub ends_with : MovesFault → RunFault
ends_with (texts.Fen fault) = runs.Fen fault
ends_with texts.NoMemory = runs.NoMemory
