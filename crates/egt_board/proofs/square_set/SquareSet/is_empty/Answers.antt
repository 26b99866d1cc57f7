use Rattle.std.proofs.Common.{ap, ◌∙◌, sym}
use Rattle.egt_board.specs.Prelude.{bit_at, eqb-true, eq-eqb, bit_at-zero, same_from_bits}
use Rattle.egt_board.proofs.square_set.SquareSet.is_empty.Goals as goal

pub returns : goal.returns
returns c = (
  λ none t. ap (λ n. bit_at n t) (eqb-true c.args.self.bits 0 none) ∙ bit_at-zero t,
  λ none. eq-eqb c.args.self.bits 0 (same_from_bits c.args.self.bits 0 (λ t. none t ∙ sym (bit_at-zero t))),
)
