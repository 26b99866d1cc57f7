use Rattle.std.proofs.Common.{◌≡◌, true, sym, ◌∙◌, ap, arith}
use Rattle.egt_board.specs.Prelude.{false≢true, bit_at_ones, the_type, Side}
use denote.Enum.Bare.{sameb}
use Rattle.egt_board.proofs.safety.stops.Goals as goal

pub returns-in_default : goal.returns-in_default
returns-in_default c = rw c.in_default.is (λ t t_in. (λ _. tt, λ _. bit_at_ones 64 t t_in))

itself : (side : Side) → sameb the_type side side ≡ true
itself side = grind arith

pub returns-else-eq : goal.returns-else-eq
returns-else-eq c =
    rw c.in-Some.is (λ t t_in. (
      λ _. λ own. absurd (false≢true (sym c.if-eq.false ∙ c.eq.ensures ∙ ap (λ side. sameb the_type side c.args.side) own ∙ itself c.args.side)),
      λ _. bit_at_ones 64 t t_in,
    ))
