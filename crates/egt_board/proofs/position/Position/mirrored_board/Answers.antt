use Rattle.std.proofs.Common.{sym, ◌∙◌, arith}
use Rattle.egt_board.proofs.MirroredPosition.{Turns-none, Turns-more}
use Rattle.egt_board.proofs.position.Position.mirrored_board.Goals as goal

pub loop-square-init : goal.loop-square-init
loop-square-init c =
    rw (c.new-board.ensures) (Turns-none c.args.mirror c.args.self.now.men c.occupied-rest.result (rw (← c.board.ensures) c.occupied-rest.ensures.free) (rw (← c.board.ensures) c.occupied-rest.ensures.few))

pub loop-square-preserved : goal.loop-square-preserved
loop-square-preserved c =
    rw (c.put.ensures, c.square.ensures, c.man.ensures) (Turns-more c.args.mirror c.args.self.now.men c.loop-square.board c.loop-square.rest c.pop_first.new.self c.in-Some.square c.unwrap-man.result (omega arith) (rw (← c.board.ensures) c.occupied-rest.ensures.on_board)
    c.in-Some.ensures.had c.in-Some.ensures.gone c.in-Some.ensures.others c.in-Some.ensures.size (sym c.at.ensures ∙ c.unwrap-man.ensures) c.loop-square.invariant)

pub put-requires : goal.put-requires
put-requires c = let few = c.loop-square.invariant.few in let size = c.in-Some.ensures.size in omega (arith, c.requires)
