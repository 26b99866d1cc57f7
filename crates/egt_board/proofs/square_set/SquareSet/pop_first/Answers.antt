use Rattle.std.proofs.Common.{arith}
use Rattle.egt_board.proofs.Bits.{bit_at_first}
use Rattle.egt_board.proofs.Sizes.{size_of-less}
use Rattle.egt_board.proofs.square_set.SquareSet.pop_first.Goals as goal

pub returns-clause-had : goal.returns-clause-had
returns-clause-had c =
    (bit_at_first c.args.self.now.bits c.in_ok-first.first (omega arith) (omega arith) c.in_ok-first.ensures.value).0

pub returns-clause-least : goal.returns-clause-least
returns-clause-least c = grind (arith, bit_at_first, c.in_ok-first.ensures.value)

pub returns-clause-fewer : goal.returns-clause-fewer
returns-clause-fewer c = grind (arith, bit_at_first, c.without.ensures.fewer, c.in_ok-first.ensures.value)

pub returns-clause-size : goal.returns-clause-size
returns-clause-size c = grind (arith, size_of-less, bit_at_first, c.in_ok-first.ensures.value, c.without.ensures.same, c.without.ensures.others)
