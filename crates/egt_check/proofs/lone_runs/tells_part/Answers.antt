use Rattle.std.proofs.Common.{subst, sym}
use Rattle.egt_check.specs.Prelude.{HasBytes, Part, table_in}
use Rattle.egt_check.proofs.ToldBytes.{has_bytes}
use Rattle.egt_check.proofs.lone_runs.tells_part.Goals as goal

pub returns-then-are_alike : goal.returns-then-are_alike
returns-then-are_alike c = λ told. subst (λ (part : Part). HasBytes (table_in part c.args.table.now)) (sym c.in-Values.is) (has_bytes c.args.table.now (c.are_alike.ensures c.if-are_alike.true) (c.tells_each_void.ensures told))
