use Rattle.egt_index.proofs.FrameMen.{free_off}
use Rattle.egt_steps.proofs.StepCodes.{men_listed, moved_stands, stands_moved}
use Rattle.egt_steps.proofs.code_laws.stands_follow_moves.Goals as goal

pub returns : goal.returns
returns c = record {
  listed = men_listed;
  free = λ k stand side targeted p s has. free_off k stand side targeted p has s;
  moved = moved_stands;
  back = stands_moved c.facts.ensures;
}
