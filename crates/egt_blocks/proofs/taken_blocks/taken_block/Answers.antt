use Rattle.std.proofs.Common.{◌∙◌, refl, sym}
use Rattle.egt_blocks.specs.Prelude.{false≢true, at}
use Rattle.egt_blocks.proofs.LastTaken.{both_take, king_raised, king_takes}
use Rattle.egt_blocks.proofs.taken_blocks.taken_block.Goals as goal

pub returns-then-not-is_of-2 : goal.returns-then-not-is_of-2
returns-then-not-is_of-2 g c = λ told a b a_in b_in.
    let number = g.S.LoneScores.number c.args.source.now in
    let worth = g.S.LoneScores.worth c.args.source.now c.args.column in
    let men = c.args.men.now in
    let low = at c.raise_transposed.new.out a b in
    let foe = c.is_of.ensures.0 c.if-not-is_of.false ∙ c.other.ensures in
    king_takes number worth c.args.flips men c.args.side a b low foe (λ own. false≢true (sym c.if-not-is_of-2.true ∙ c.is_of-2.ensures.1 own))
    (king_raised number worth c.args.flips men c.args.side a b (at c.nothing.result a b) (at c.read_king_takes.new.out b a) low (c.nothing.ensures a b a_in b_in) (c.raise_transposed.ensures a b a_in b_in) (c.if-not-read_king_takes.ensures refl b a b_in a_in))

pub returns : goal.returns
returns g c = λ told a b a_in b_in.
    let number = g.S.LoneScores.number c.args.source.now in
    let worth = g.S.LoneScores.worth c.args.source.now c.args.column in
    let men = c.args.men.now in
    let low = at c.raise_transposed.new.out a b in
    let foe = c.is_of.ensures.0 c.if-not-is_of.false ∙ c.other.ensures in
    both_take number worth c.args.flips men c.args.side a b low (at c.raise_takes.new.out a b) c.read_left.new.out b_in foe (c.is_of-2.ensures.0 c.if-not-is_of-2.false)
    (king_raised number worth c.args.flips men c.args.side a b (at c.nothing.result a b) (at c.read_king_takes.new.out b a) low (c.nothing.ensures a b a_in b_in) (c.raise_transposed.ensures a b a_in b_in) (c.if-not-read_king_takes.ensures refl b a b_in a_in))
    (c.if-not-read_left.ensures refl) (c.raise_takes.ensures a b a_in b_in)
