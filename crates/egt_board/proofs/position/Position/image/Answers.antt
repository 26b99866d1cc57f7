use Rattle.std.proofs.Common.{◌/◌, ◌%◌, Bool, subst, inl, inr, arith, ◌==◌}
use Rattle.egt_board.specs.Prelude.{Files, Ranks, Diagonal, Setup, square_by-within, IsCarried, IsTurned, square_if}
use Rattle.egt_board.specs.Prelude.{square_of, eqb-true}
use Rattle.egt_board.proofs.position.Position.image.Goals as goal

pub turned-by_ranks-requires-clause-allowed : goal.turned-by_ranks-requires-clause-allowed
turned-by_ranks-requires-clause-allowed c = λ turns. elim c.requires [
  | inl none ↦ c.turned-by_files.ensures.no_pawn none
  | inr less ↦ let e = eqb-true (c.number-number.result / 2 % 2) 1 turns in let n = c.number-number.ensures.value in absurd (omega arith)
]

pub turned-requires-clause-allowed : goal.turned-requires-clause-allowed
turned-requires-clause-allowed c = λ turns. elim c.requires [
  | inl none ↦ c.turned-by_ranks.ensures.no_pawn (c.turned-by_files.ensures.no_pawn none)
  | inr less ↦ let e = eqb-true (c.number-number.result / 4) 1 turns in let n = c.number-number.ensures.value in absurd (omega arith)
]

carried : (b1 b2 b3 : Bool) (p q r s : Setup) → IsTurned Files b1 p q → IsTurned Ranks b2 q r → IsTurned Diagonal b3 r s
    → IsCarried (λ t. square_if b3 Diagonal (square_if b2 Ranks (square_if b1 Files t))) p s
carried b1 b2 b3 p q r s one two three = grind (arith, square_by-within)

pub returns : goal.returns
returns c =
    subst (λ n. IsCarried (square_of n) c.args.self.now c.turned.result) c.number-number.ensures.value
    (carried (c.number-number.result % 2 == 1) (c.number-number.result / 2 % 2 == 1) (c.number-number.result / 4 == 1) c.args.self.now c.turned-by_files.result c.turned-by_ranks.result c.turned.result
    c.turned-by_files.ensures.turned c.turned-by_ranks.ensures.turned c.turned.ensures.turned)
