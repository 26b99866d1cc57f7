use Rattle.std.proofs.Common.{arith}
use Rattle.egt_steps.proofs.PawnCaptures.{comes, goes}
use Rattle.egt_steps.proofs.Takings.{Telling}
use Rattle.egt_steps.proofs.pawn_laws.promoting_captures_lead_to_three_men.Goals as goal

pub returns : goal.returns
returns c = record {
  goes = λ k men first side targeted a b p q m kind class_in one_other pawn has leads from_is held promo_is.
      goes c.facts.ensures telling k men first side targeted a b p pawn has kind q m leads from_is held promo_is;
  comes = λ k men first side targeted a b p kind class_in one_other pawn has is d flips class q has_left.
      comes c.facts.ensures telling k men first side targeted a b p pawn has kind is d flips q has_left;
}
  where
    telling : Telling
    telling = grind arith
