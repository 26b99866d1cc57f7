use Rattle.std.proofs.Common.{◌<◌, ℕ, false, sym, subst}
use Rattle.egt_blocks.specs.Prelude.{other_side, Side, IsSomeTurnedCode, at, IsRaised, stand_on, AreKept, IsRead}
use Rattle.egt_blocks.proofs.QuietRaising.{all_quiet, king_alone, no_piece}
use Rattle.egt_blocks.proofs.quiet_blocks.quiet_block.Goals as goal

pub raise_kept-requires-clause-kept : goal.raise_kept-requires-clause-kept
raise_kept-requires-clause-kept g c = subst (λ (s : Side). AreKept (g.S.ShelfScores.number c.args.source.now) (g.S.ShelfScores.worth c.args.source.now) c.args.men.now s c.king_block.new.keys c.king_block.new.blocks) (sym c.other.ensures) c.king_block.ensures.kept

pub returns-then-not-is_own_piece-2-clause-raised : goal.returns-then-not-is_own_piece-2-clause-raised
returns-then-not-is_own_piece-2-clause-raised g c = λ told a b a_in b_in.
    let men = c.args.men.now in
    king_alone (g.S.ShelfScores.number c.args.source.now) (g.S.ShelfScores.worth c.args.source.now c.args.column) men c.args.side a b (at c.king_block.new.out a b) (c.king_block.ensures.raised c.if-not-king_block.false a b a_in b_in)
    (λ own. no_piece men.first.kind (c.is_own_piece.ensures.no c.if-not-is_own_piece.true own) c.requires.one)
    (λ own. no_piece men.last.kind (c.is_own_piece-then-not-is_own_piece.ensures.no c.if-not-is_own_piece-2.true own) c.requires.last)

pub returns-clause-raised : goal.returns-clause-raised
returns-clause-raised g c = λ told a b a_in b_in.
    let number = g.S.ShelfScores.number c.args.source.now in
    let worth = g.S.ShelfScores.worth c.args.source.now c.args.column in
    let men = c.args.men.now in
    let side = c.args.side in
    let read : (i j : ℕ) → i < 64 → j < 64 → IsRead number worth false (stand_on men i j) (other_side side) (at c.raise_kept.new.out i j) = λ i j i_in j_in.
    subst (λ (s : Side). IsRead number worth false (stand_on men i j) s (at c.raise_kept.new.out i j)) c.other.ensures
    (subst (λ low. IsRaised low (λ code. IsSomeTurnedCode number code false (stand_on men i j) c.other.result) worth (at c.raise_kept.new.out i j)) (c.nothing-scores.ensures i j i_in j_in)
    (c.raise_kept.ensures.raised c.if-not-raise_kept.false i j i_in j_in)) in
    all_quiet number worth men side a b (at c.king_block.new.out a b) (c.king_block.ensures.raised c.if-not-king_block.false a b a_in b_in) c.raise_kept.new.out read a_in b_in (at c.raise_first.new.out a b) (at c.raise_last.new.out a b)
    (c.raise_first.ensures a b a_in b_in) (c.raise_last.ensures a b a_in b_in)

pub returns-clause-kept : goal.returns-clause-kept
returns-clause-kept g c = subst (λ (s : Side). AreKept (g.S.ShelfScores.number c.args.source.now) (g.S.ShelfScores.worth c.args.source.now) c.args.men.now s c.raise_kept.new.keys c.raise_kept.new.blocks) c.other.ensures c.raise_kept.ensures.kept

pub returns-then-not-raise_kept-clause-kept : goal.returns-then-not-raise_kept-clause-kept
returns-then-not-raise_kept-clause-kept g c = subst (λ (s : Side). AreKept (g.S.ShelfScores.number c.args.source.now) (g.S.ShelfScores.worth c.args.source.now) c.args.men.now s c.raise_kept.new.keys c.raise_kept.new.blocks) c.other.ensures c.raise_kept.ensures.kept
