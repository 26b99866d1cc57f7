use Rattle.std.proofs.Common.{ap, ◌∙◌}
use Rattle.egt_commands.specs.Prelude.{lines_of}
use Rattle.egt_commands.proofs.moves.moves_text.Goals as goal

pub returns-in-Ok-lines-clause-moves : goal.returns-in-Ok-lines-clause-moves
returns-in-Ok-lines-clause-moves c = record {
  read = c.in-Ok.read;
  moves = c.legal_moves-moves.result.items;
  spells = c.in-Ok.ensures.spells;
  all = record { legal = c.legal_moves-moves.ensures.legal; ordered = c.legal_moves-moves.ensures.ordered };
  lines = c.in-Ok-lines.ensures ∙ ap lines_of c.as_slice.ensures.value;
}
