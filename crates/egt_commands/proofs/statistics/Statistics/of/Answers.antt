use Rattle.std.proofs.Common.{sym, ap, ◌∙◌}
use Rattle.egt_commands.specs.Prelude.{size_of, Mate}
use Rattle.egt_commands.proofs.statistics.Statistics.of.Goals as goal

pub returns : goal.returns
returns c = record {
  entries = (c.size.ensures ∙ ap size_of c.class.ensures.class) ∙ sym (c.class.ensures.table.sizes Mate tt);
  void = c.count.ensures;
  draws = c.count-2.ensures;
  wins = c.count-3.ensures;
  losses = c.count-4.ensures;
  longest_win = c.longest.ensures;
  longest_loss = c.longest-2.ensures;
  dead = c.dead.ensures;
}
