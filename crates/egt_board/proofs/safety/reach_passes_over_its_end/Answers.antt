use Rattle.std.proofs.Common.{sym, ◌∙◌}
use Rattle.egt_board.specs.Prelude.{IsFree, get-insert_other}
use Rattle.std.specs.FinMap as map
use Rattle.egt_board.proofs.Hiding.{Reaches-target}
use Rattle.egt_board.proofs.safety.reach_passes_over_its_end.Goals as goal

pub returns : goal.returns
returns c = λ men man occupant s t. (
  Reaches-target (IsFree (map.insert men t occupant)) (IsFree men) man s t (λ u u_in other free. sym (get-insert_other men t occupant u other) ∙ free),
  Reaches-target (IsFree men) (IsFree (map.insert men t occupant)) man s t (λ u u_in other free. get-insert_other men t occupant u other ∙ free),
)
