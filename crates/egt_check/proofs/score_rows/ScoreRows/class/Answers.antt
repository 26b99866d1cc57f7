use Rattle.std.proofs.Common.{◌≡◌, length, subst}
use Rattle.egt_check.specs.Prelude.{kind_less, size_of, CodeScores}
use Rattle.egt_check.proofs.ScoreRowsRead.{scores_long}
use Rattle.egt_check.proofs.score_rows.ScoreRows.class.Goals as goal

pub returns-clause-size : goal.returns-clause-size
returns-clause-size c =
    let inside = c.self.inside in
    subst (λ (v : CodeScores). length v.scores ≡ size_of v.class) c.self.view_is (scores_long inside.class (kind_less inside.last.kind) inside.shelves inside.rows.items)
