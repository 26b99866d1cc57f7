use Rattle.std.proofs.Common.{inr, sym, ◌∙◌}
use Rattle.egt_board.specs.Prelude.{false≢true}
use Rattle.egt_board.proofs.position.Position.settle.Goals as goal

pub returns-else-is_settled : goal.returns-else-is_settled
returns-else-is_settled c = inr ((λ settled. false≢true (sym c.if-is_settled.false ∙ c.is_settled.ensures.1 settled)), c.untargeted.ensures)
