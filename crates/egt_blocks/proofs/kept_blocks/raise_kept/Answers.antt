use Rattle.std.specs.Prelude.{[], false, slice_index_or}
use Rattle.egt_blocks.specs.Prelude.{IsSomeTurnedCode, at, stand_on}
use Rattle.egt_blocks.proofs.BlockRaising.{raised_max}
use Rattle.egt_blocks.proofs.kept_blocks.raise_kept.Goals as goal

pub returns-clause-raised : goal.returns-clause-raised
returns-clause-raised g c = λ told a b a_in b_in.
    let number = g.S.ShelfScores.number c.args.source.now in
    let worth = g.S.ShelfScores.worth c.args.source.now c.args.column in
    let read = at (slice_index_or c.keep.new.blocks c.wide_place-place.result []) a b in
    raised_max (at c.args.out.now a b) (λ code. IsSomeTurnedCode number code false (stand_on c.args.men.now a b) c.args.side) worth read (at c.raise_to_max.new.out a b) (c.keep.ensures.read c.if-not-keep.false a b a_in b_in) (c.raise_to_max.ensures a b a_in b_in)
