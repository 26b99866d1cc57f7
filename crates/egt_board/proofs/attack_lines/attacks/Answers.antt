use Rattle.std.proofs.Common.{sym, ◌∙◌, arith}
use Rattle.egt_board.specs.Prelude.{false≢true}
use Rattle.egt_board.proofs.Hiding.{Reaches-bare, attacks_open}
use Rattle.egt_board.proofs.attack_lines.attacks.Goals as goal

pub returns-then-contains : goal.returns-then-contains
returns-then-contains c =
    attacks_open c.args.man c.args.from c.args.to c.args.occupied.bits c.between.result.bits c.intersection.result.bits
    ((c.lone_reach.ensures c.args.to (omega arith)).0 (c.contains.ensures.0 c.if-contains.true)) c.between.ensures c.intersection.ensures.squares c.is_empty.ensures

pub returns-else-contains : goal.returns-else-contains
returns-else-contains c = (
  λ untrue. absurd (false≢true (sym c.if-contains.false ∙ untrue)),
  λ r. absurd (false≢true (sym c.if-contains.false ∙ c.contains.ensures.1 ((c.lone_reach.ensures c.args.to (omega arith)).1 (Reaches-bare c.args.man c.args.from c.args.to c.args.occupied.bits r)))),
)
