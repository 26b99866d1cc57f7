use Rattle.std.proofs.Common.{arith, w64}
use Rattle.egt_board.specs.Prelude.{bit_at_set_same, bit_at_set_other}
use Rattle.egt_board.proofs.square_set.SquareSet.with.Goals as goal

pub returns-clause-same : goal.returns-clause-same
returns-clause-same c =
    rw (← c.number.ensures.value) (bit_at_set_same w64 c.args.self.bits c.number.result (omega arith))

pub returns-clause-others : goal.returns-clause-others
returns-clause-others c = λ t other. bit_at_set_other w64 c.args.self.bits c.number.result (omega arith) t (rw c.number.ensures.value other)
