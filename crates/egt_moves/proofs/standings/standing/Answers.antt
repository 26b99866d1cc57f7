use Rattle.std.proofs.Common.{sym, ◌∙◌}
use Rattle.egt_moves.specs.Prelude.{false≢true}
use Rattle.egt_moves.proofs.standings.standing.Goals as goal

pub returns-then-is_in_check : goal.returns-then-is_in_check
returns-then-is_in_check c = record {
  stuck = c.if-can_move.ensures;
  check = rw (← c.board.ensures, ← c.side-side.ensures.side) (c.is_in_check.ensures.0 c.if-is_in_check.true);
}

pub returns-else-is_in_check : goal.returns-else-is_in_check
returns-else-is_in_check c = record {
  stuck = c.if-can_move.ensures;
  quiet = λ check. false≢true (sym c.if-is_in_check.false ∙ c.is_in_check.ensures.1 (rw (c.board.ensures, c.side-side.ensures.side) check));
}
