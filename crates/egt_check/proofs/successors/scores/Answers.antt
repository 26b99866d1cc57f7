use Rattle.egt_entries.specs.Tables.{table_at, beside}
use Rattle.egt_entries.proofs.Scoring.{told}
use Rattle.egt_check.proofs.MoveScored.{Seen, scores_by}
use Rattle.egt_check.proofs.successors.scores.Goals as goal

pub returns : goal.returns
returns c =
    let tables = beside (table_at c.args.library.now) c.args.table.now in
    let (mate, mate_shown) = told c.args.entries.mate in
    let (zeroing, zeroing_shown) = told c.args.entries.zeroing in
    let seen : Seen tables c.args.position.now c.args.chess_move.now c.args.entries mate zeroing c.args.zeroes = record {
      next = c.requires.legal.0;
      leads = c.requires.legal.1;
      has = λ metric. c.requires.entries metric c.requires.legal.0 c.requires.legal.1;
      mate_shown = mate_shown;
      zeroing_shown = zeroing_shown;
      zeroes_is = c.requires.zeroes;
    } in
    scores_by c.facts.ensures tables c.args.position.now c.side-side.ensures.admissible c.args.chess_move.now c.args.entries mate zeroing c.args.zeroes seen _ (c.mate_score.ensures mate mate_shown) (c.zeroing_score.ensures mate zeroing mate_shown zeroing_shown)
