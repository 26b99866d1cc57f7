use Rattle.std.proofs.Common.{subst}
use Rattle.egt_class.specs.Prelude.{in_any_order, AreBeside, Placement}
use Rattle.egt_class.proofs.NonKings.{one_king_each}
use Rattle.egt_class.proofs.TwoNonKings.{are_beside}
use Rattle.egt_class.proofs.membership.non_kings.Goals as goal

pub returns : goal.returns
returns c =
    let ok = c.side-side.ensures.admissible in
    let are = subst (λ (men : Placement). AreBeside men c.non_kings-first.result.0 c.non_kings-first.result.1) c.board.ensures c.non_kings-first.ensures in
    let is = are_beside c.one_square_changes.ensures.cleared c.args.position.now c.non_kings-first.result.0 c.non_kings-first.result.1 ok.on_board (one_king_each c.args.position.now ok c.one_king_is_counted.ensures) (in_any_order c.args.position.now.men c.non_kings-first.result.0 c.non_kings-first.result.1 are) in
    rw (c.man_of.ensures, c.man_of-2.ensures) is
