use Rattle.std.proofs.Common.{◌≡◌, ◌↔◌, sym, subst}
use Rattle.egt_blocks.specs.Prelude.{bit_at, rank_of, Side, leap_rank}
use Rattle.egt_blocks.proofs.LeapRaising.{on_rank}
use Rattle.egt_blocks.proofs.advance_blocks.leap_squares.Goals as goal

pub returns-in-White : goal.returns-in-White
returns-in-White c = λ t t_in.
    subst (λ (s : Side). (bit_at c.rank_squares.result.bits t ≡ 1) ↔ (rank_of t ≡ leap_rank s)) (sym c.in-White.is) (on_rank (bit_at c.rank_squares.result.bits t) (rank_of t) 3 (c.rank_squares.ensures t t_in))

pub returns-in-Black : goal.returns-in-Black
returns-in-Black c = λ t t_in.
    subst (λ (s : Side). (bit_at c.rank_squares-in-Black.result.bits t ≡ 1) ↔ (rank_of t ≡ leap_rank s)) (sym c.in-Black.is) (on_rank (bit_at c.rank_squares-in-Black.result.bits t) (rank_of t) 4 (c.rank_squares-in-Black.ensures t t_in))
