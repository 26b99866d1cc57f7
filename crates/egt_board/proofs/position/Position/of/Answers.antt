use Rattle.egt_board.proofs.Counts.{few_of_side}
use Rattle.egt_board.proofs.position.Position.of.Goals as goal

pub returns-clause-few : goal.returns-clause-few
returns-clause-few c =
    let whole = c.self.invariant in
    let a = c.self.inside in
    few_of_side a.board c.args.side c.of.result a.white_king a.black_king whole.admissible.few
    (whole.admissible.on_board a.white_king _ whole.white.stands) (whole.admissible.on_board a.black_king _ whole.black.stands) whole.white whole.black c.of.ensures
