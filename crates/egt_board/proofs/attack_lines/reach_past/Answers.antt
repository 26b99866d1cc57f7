use Rattle.std.proofs.Common.{arith}
use Rattle.egt_board.proofs.Bits.{bit_at-within}
use Rattle.egt_board.proofs.Sizes.{reach_few}
use Rattle.egt_board.proofs.attack_lines.reach_past.Goals as goal

pub returns-clause-few : goal.returns-clause-few
returns-clause-few c = reach_few c.reach.result _ c.args.man c.args.from (omega arith) (λ t has. (c.reach.ensures t (bit_at-within c.reach.result.bits t (omega arith) has)).0 has)
