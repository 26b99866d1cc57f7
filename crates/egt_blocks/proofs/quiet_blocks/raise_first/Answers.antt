use Rattle.std.specs.Prelude.{ℕ}
use Rattle.egt_blocks.specs.Prelude.{Reaches, IsOpen, at, IsClear, IsFirstStep}
use Rattle.egt_blocks.proofs.QuietRaising.{no_pawn, open_is_clear, steps_raised}
use Rattle.egt_blocks.proofs.BlockRaising.{raised_alike}
use Rattle.egt_blocks.proofs.quiet_blocks.raise_first.Goals as goal

pub returns-then-is_own_piece : goal.returns-then-is_own_piece
returns-then-is_own_piece c = λ a b a_in b_in.
    let men = c.args.men.now in
    let own = c.is_own_piece.ensures.yes c.if-is_own_piece.true in
    let f : ℕ → ℕ = λ t. at c.args.scores.now t b in
    let raised =
    steps_raised (IsOpen c.kings_of.result.bits b) (IsClear men b) men.first a f (at c.args.out.now a b) (at c.raise_rows.new.out a b) (open_is_clear men c.kings_of.result.bits b c.kings_of.ensures) (c.raise_rows.ensures a b a_in b_in) in
    raised_alike (at c.args.out.now a b) (at c.raise_rows.new.out a b) (λ t. Reaches (IsClear men b) men.first a t) (IsFirstStep men c.args.side a b) f raised (λ t h. h.2) (λ t h. (own.0, no_pawn men.first.kind own.1, h))
