use Rattle.std.proofs.Common.{arith, sym, ◌∙◌}
use Rattle.egt_board.specs.Prelude.{false≢true}
use Rattle.egt_board.proofs.Lists.{Laid-none, Laid-more, Laid-twice, Laid-room}
use Rattle.egt_board.proofs.Positions.{some_of, none_of}
use Rattle.egt_board.proofs.board.Board.of_men.Goals as goal

pub loop-man-init : goal.loop-man-init
loop-man-init c = let start = Laid-none c.args.men.now in rw c.new-board.ensures start

pub returns-then-is_some-clause-fits : goal.returns-then-is_some-clause-fits
returns-then-is_some-clause-fits c =
    let other = some_of c.at.result (sym c.is_some.ensures ∙ c.if-is_some.true) in (
      λ untrue. absurd (false≢true untrue),
      λ fits. absurd (Laid-twice c.loop-man.board c.args.men.now c.loop-man.man-index c.loop-man-item.result.1 c.loop-man-item.result.0 other.0 c.loop-man-item.result
          (omega arith) (sym c.loop-man-item.is) (sym c.at.ensures ∙ other.1) c.loop-man.invariant fits),
    )

pub loop-man-preserved : goal.loop-man-preserved
loop-man-preserved c =
    rw c.put.ensures (Laid-more c.loop-man.board c.args.men.now c.loop-man.man-index c.loop-man-item.result.1 c.loop-man-item.result.0 c.loop-man-item.result
    (omega arith) (sym c.loop-man-item.is) (sym c.at.ensures ∙ none_of c.at.result (sym c.is_some.ensures ∙ c.if-is_some.false)) c.loop-man.invariant)

pub put-requires : goal.put-requires
put-requires c = Laid-room c.loop-man.board c.args.men.now c.loop-man.man-index (omega arith) (omega arith) c.loop-man.invariant
