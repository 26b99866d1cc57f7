use Rattle.std.proofs.Common.{ap, sym, ◌∙◌}
use Rattle.egt_board.specs.Prelude.{bit_at, false≢true, bit_at_ones}
use Rattle.egt_board.proofs.Hiding.{stops_none, stops_between}
use Rattle.egt_board.proofs.attack_lines.stops.Goals as goal

pub returns-then-attacks : goal.returns-then-attacks
returns-then-attacks c = λ t t_in.
    stops_between c.args.man c.args.from c.args.to t c.args.occupied.bits c.between.result.bits (c.attacks.ensures.0 c.if-attacks.true) c.between.ensures _
    (λ e. ap (bit_at c.with.result.bits) e ∙ c.with.ensures.same) (c.with.ensures.others t)

pub returns-else-attacks : goal.returns-else-attacks
returns-else-attacks c = λ t t_in. (
  λ _. stops_none c.args.man c.args.from c.args.to t c.args.occupied.bits (λ r. false≢true (sym c.if-attacks.false ∙ c.attacks.ensures.1 r)),
  λ _. bit_at_ones 64 t t_in,
)
