use Rattle.egt_board.specs.MirrorLaws.{no_pawn_by}
use Rattle.egt_board.proofs.position.Position.turned.Goals as goal

pub returns-then-turns-clause-no_pawn : goal.returns-then-turns-clause-no_pawn
returns-then-turns-clause-no_pawn c = no_pawn_by c.args.mirror c.args.self.now.men c.mirrored.result.men c.mirrored.ensures.men c.mirrored.ensures.on_board
