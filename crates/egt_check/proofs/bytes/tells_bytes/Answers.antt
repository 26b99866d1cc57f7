use Rattle.egt_check.proofs.ToldBytes.{has_bytes}
use Rattle.egt_check.proofs.bytes.tells_bytes.Goals as goal

pub returns-then-are_alike : goal.returns-then-are_alike
returns-then-are_alike c = λ told. has_bytes c.args.table.now (c.are_alike.ensures c.if-are_alike.true) (c.tells_voids.ensures told)
