use Rattle.std.proofs.Common.{arith, w64}
use Rattle.egt_board.specs.Prelude.{bit_at_clear_same}
use Rattle.egt_board.proofs.Bits.{clear-lt, bit_at_cleared_other}
use Rattle.egt_board.proofs.square_set.SquareSet.without.Goals as goal

pub returns-clause-same : goal.returns-clause-same
returns-clause-same c = rw (← c.number.ensures.value) (bit_at_clear_same w64 c.args.self.bits c.number.result (omega arith))

pub returns-clause-others : goal.returns-clause-others
returns-clause-others c =
    λ t other. bit_at_cleared_other c.args.self.bits c.number.result t (omega arith) (omega arith) (rw c.number.ensures.value other)

pub returns-clause-fewer : goal.returns-clause-fewer
returns-clause-fewer c = λ has. clear-lt c.args.self.bits c.number.result (omega arith) (rw c.number.ensures.value has)
