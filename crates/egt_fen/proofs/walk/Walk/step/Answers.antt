use Rattle.std.proofs.Common.{arith, sym, ◌≡◌, ◌+◌, ◌*◌}
use Rattle.egt_fen.proofs.Letters.{men_left-letter}
use Rattle.egt_fen.proofs.walk.Walk.step.Goals as goal

pub returns-else-self-eq8 : goal.returns-else-self-eq8
returns-else-self-eq8 c = λ rest.
    let w = c.args.self.now in
    let there : c.unwrap-square.result ≡ 8 * w.rank + w.file = rw c.unwrap-square.ensures at c.new.ensures.value in
    men_left-letter w.men.items c.push.new.self.items c.args.byte c.in_ok-man-in_default.man rest w.rank w.file c.unwrap-square.result
    (omega arith) (sym c.in_ok-man-in_default.ensures) (omega arith) there c.push.ensures.items
