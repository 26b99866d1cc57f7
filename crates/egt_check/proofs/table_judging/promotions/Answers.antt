use Rattle.egt_check.proofs.table_judging.promotions.Goals as goal

pub returns-clause-has : goal.returns-clause-has
returns-clause-has c = λ t same. record {
  queen = c.in_ok-queen.ensures.has t same;
  rook = c.in_ok-rook.ensures.has t same;
  bishop = c.in_ok-bishop.ensures.has t same;
  knight = c.in_ok-knight.ensures.has t same;
  queen_is = c.in_ok-queen.ensures.kind;
  rook_is = c.in_ok-rook.ensures.kind;
  bishop_is = c.in_ok-bishop.ensures.kind;
  knight_is = c.in_ok-knight.ensures.kind;
}
