use Rattle.std.proofs.Common.{◌≡◌, List, length, map, take, ap, ◌∙◌, subst}
use Rattle.egt_c.specs.Prelude.{Move, Answered, Listed, written}
use Rattle.egt_c.proofs.position_calls.egtb_legal_moves.Goals as goal

pub returns-in-Ok : goal.returns-in-Ok
returns-in-Ok c =
    let same = c.as_slice.ensures.value in
    Answered c.in-Ok.position c.in-Ok.ensures.position (Listed (record {
      moves = c.legal_moves.result.items;
      legal = c.legal_moves.ensures.legal;
      ordered = c.legal_moves.ensures.ordered;
      count = c.of.ensures.count ∙ ap length same;
      texts = subst (λ (ms : List Move). take (length ms) c.of.result.moves ≡ map written ms) same c.of.ensures.moves;
    }) c.none.ensures)
