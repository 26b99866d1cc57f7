use Rattle.std.proofs.Common.{arith}
use Rattle.egt_board.specs.Prelude.{Reaches-on_board, Reaches-free}
use Rattle.egt_board.proofs.Bits.{bit_at-within}
use Rattle.egt_board.proofs.board.Board.reach_past.Goals as goal

pub returns-clause-reached : goal.returns-clause-reached
returns-clause-reached c = λ t. (
  λ has. Reaches-free _ _ c.args.man c.args.from t (λ u u_in. (c.requires u).0)
      ((c.reach_past.ensures.reached t (bit_at-within c.reach_past.result.bits t (omega arith) has)).0 has),
  λ r. (c.reach_past.ensures.reached t (Reaches-on_board _ c.args.man c.args.from t r)).1
      (Reaches-free _ _ c.args.man c.args.from t (λ u u_in. (c.requires u).1) r),
)
