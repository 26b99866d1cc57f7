use Rattle.std.proofs.Common.{arith}
use Rattle.egt_board.proofs.Bits.{bit_at_without}
use Rattle.egt_board.proofs.Sizes.{size_of-le}
use Rattle.egt_board.proofs.square_set.SquareSet.difference.Goals as goal

pub returns-clause-squares : goal.returns-clause-squares
returns-clause-squares c = λ t. bit_at_without c.args.self.bits c.args.other.bits t (omega arith) (omega arith)

pub returns-clause-few : goal.returns-clause-few
returns-clause-few c = grind (arith, size_of-le, bit_at_without)
