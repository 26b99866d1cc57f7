-- Settled positions.
use Rattle.std.proofs.Common.{ℕ, ◌<◌, Option, Some, None, IfSome, arith, refl, subst, inl, inr}
use Rattle.egt_board.specs.Prelude.{option_map, Mirror, Files, Ranks, Diagonal, Colours, Side, other_side, Placement}
use Rattle.egt_board.specs.Prelude.{pawn_of, ahead, IsBeside, HasPawnBeside, FitsTarget, square_by, side_by, Allows}
use Rattle.egt_board.specs.Prelude.{ahead_by, target_between, ShowsMen, OnBoard}
use Rattle.egt_board.proofs.MirroredPosition.{ahead_within, stands_by}

beside_files : (s t : ℕ) → IsBeside s t → IsBeside (square_by Files s) (square_by Files t)
beside_files s t h = (let same = h.0 in omega arith, elim h.1 [ inl e ↦ inr (omega arith) | inr e ↦ inl (omega arith) ])

beside_colours : (s t : ℕ) → s < 64 → t < 64 → IsBeside s t → IsBeside (square_by Colours s) (square_by Colours t)
beside_colours s t s_in t_in h = (let same = h.0 in omega arith, elim h.1 [ inl e ↦ inl (omega arith) | inr e ↦ inr (omega arith) ])

-- a pawn stands ready to take in a mirror
pub ready_by : (m : Mirror) (men men' : Placement) (side : Side) (target : Option ℕ) → Allows m men → ShowsMen m men men' → OnBoard men → FitsTarget men side target
    → IfSome target (λ t. HasPawnBeside men side (ahead (other_side side) t)) → IfSome (option_map (square_by m) target) (λ t. HasPawnBeside men' (side_by m side) (ahead (other_side (side_by m side)) t))
ready_by m men men' side None allows shows ok fits ready = tt
ready_by Files men men' side (Some t) allows shows ok fits ready =
    let b = target_between side t fits.rank in
    record {
      square = square_by Files ready.square;
      stands = stands_by Files men men' ready.square (pawn_of side) shows (ok _ _ ready.stands) ready.stands;
      beside = subst (IsBeside (square_by Files ready.square)) (ahead_by Files (other_side side) t tt b.0 b.1) (beside_files ready.square (ahead (other_side side) t) ready.beside);
    }
ready_by Ranks men men' side (Some t) allows shows ok fits ready = absurd (allows _ _ fits.advanced refl)
ready_by Diagonal men men' side (Some t) allows shows ok fits ready = absurd (allows _ _ fits.advanced refl)
ready_by Colours men men' side (Some t) allows shows ok fits ready =
    let b = target_between side t fits.rank in
    let s_in = ok _ _ ready.stands in
    record {
      square = square_by Colours ready.square;
      stands = stands_by Colours men men' ready.square (pawn_of side) shows s_in ready.stands;
      beside = subst (IsBeside (square_by Colours ready.square)) (ahead_by Colours (other_side side) t tt b.0 b.1) (beside_colours ready.square (ahead (other_side side) t) s_in (ahead_within (other_side side) t b.0 b.1) ready.beside);
    }
