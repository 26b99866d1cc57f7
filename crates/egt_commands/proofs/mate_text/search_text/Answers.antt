use Rattle.std.proofs.Common.{◌≡◌, ◌∙◌, IfOk, sym, subst, ap}
use Rattle.egt_commands.specs.Mates.{mate_line, no_mate_line, line_of}
use Rattle.egt_commands.proofs.mate_text.search_text.Goals as goal
use Rattle.egt_commands.proofs.mate_text.search_text.Goals.{in-Mate, in-NotWithin}

pub returns-in-Ok-line-clause-mate : goal.returns-in-Ok-line-clause-mate
returns-in-Ok-line-clause-mate c = record {
  read = c.in-Ok.read;
  told = c.search.result;
  spells = c.in-Ok.ensures.spells;
  answers = c.search.ensures;
  line = elim c.match-search.branch [
    | in-Mate w ↦
        subst (λ made. IfOk made (λ text. text.items ≡ mate_line w.in-Mate.winner w.in-Mate.within)) (sym w.line-is ∙ c.in-Ok-line.is) w.mate-line.ensures
        ∙ ap (line_of c.args.plies) (sym w.in-Mate.is)
    | in-NotWithin w ↦
        subst (λ made. IfOk made (λ text. text.items ≡ no_mate_line c.args.plies)) (sym w.line-is ∙ c.in-Ok-line.is) w.no_mate-line.ensures
        ∙ ap (line_of c.args.plies) (sym w.in-NotWithin.is)
  ];
}
