use Rattle.std.proofs.Common.{rules}
use Rattle.egt_unmoves.proofs.Went.{king_taken_back, king_stays}
use Rattle.egt_unmoves.proofs.taking_back.king_before.Goals as goal

pub returns-then-eq : goal.returns-then-eq
returns-then-eq c = λ man may. king_taken_back c.args.position.now man c.args.to c.args.from may c.args.side c.king-king.result c.king-king.ensures (search rules)

pub returns-else-eq : goal.returns-else-eq
returns-else-eq c = λ man may. king_stays c.args.position.now man c.args.to c.args.from may c.args.side c.king-king.result c.king-king.ensures (search rules)
