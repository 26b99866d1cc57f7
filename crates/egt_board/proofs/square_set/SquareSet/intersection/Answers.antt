use Rattle.std.proofs.Common.{arith}
use Rattle.egt_board.specs.Prelude.{bit_at_and}
use Rattle.egt_board.proofs.Sizes.{size_of-le}
use Rattle.egt_board.proofs.square_set.SquareSet.intersection.Goals as goal

pub returns-clause-squares : goal.returns-clause-squares
returns-clause-squares c = λ t. bit_at_and c.args.self.bits c.args.other.bits t

pub returns-clause-few : goal.returns-clause-few
returns-clause-few c = size_of-le _ c.args.self (λ t. let e = bit_at_and c.args.self.bits c.args.other.bits t in rw e (omega arith))
