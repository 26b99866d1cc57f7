use Rattle.std.specs.Prelude.{refl}
use Rattle.egt_probe.specs.Prelude.{Draw}
use Rattle.egt_probe.proofs.Best.{first_to}
use Rattle.egt_probe.proofs.Drawn.{stalemate}
use Rattle.egt_probe.proofs.holding.drawing_move.Goals as goal

pub returns-in-Some : goal.returns-in-Some
returns-in-Some c =
    (c.requires.drawn, (c.in-Some.field-0-1, first_to c.facts.ensures c.args.position.now c.in-Some.field-0-1 c.in-Some.chess_move 1 Draw (tt, refl) c.in-Some.ensures.some))

pub returns-in-None : goal.returns-in-None
returns-in-None c = (c.requires.drawn, stalemate c.facts.ensures c.args.position.now c.requires.drawn c.in-None.ensures.none)
