use Rattle.std.proofs.Common.{inl, inr, refl, arith}
use Rattle.egt_board.specs.Prelude.{bit_at-lt}
use Rattle.egt_board.proofs.Pawns.{FitSoFar-init}
use Rattle.egt_board.proofs.board.Board.pawns_fit.Goals as goal

pub loop-square-init : goal.loop-square-init
loop-square-init c = FitSoFar-init _ _ (bit_at-lt c.occupied-rest.result.bits) c.occupied-rest.ensures.free

pub unwrap-man-requires : goal.unwrap-man-requires
unwrap-man-requires c = rw c.at.ensures (c.loop-square.invariant.held c.in-Some.square c.in-Some.ensures.had)

pub loop-square-preserved : goal.loop-square-preserved
loop-square-preserved c = grind (arith, c.loop-square.invariant, c.in-Some.ensures.gone, c.in-Some.ensures.others, c.at.ensures, c.unwrap-man.ensures, c.may_stand.ensures.0)

pub returns : goal.returns
returns c = (
  λ _. λ s man stands. elim (c.loop-square.invariant.fit s man stands) [
    | inl left ↦ let none = c.in_default.ensures.empty s in absurd (omega arith)
    | inr fits ↦ fits
  ],
  λ _. refl,
)
