-- The names that contracts and proofs cite, passed on from one place.
pub use Rattle.egt_board.specs.AttackLines.{OneOf, Reaches, Rides, diagonal_steps, farthest, knight_steps, step}
pub use Rattle.egt_board.specs.AttackLines.{steps_of, straight_steps}
pub use Rattle.egt_board.specs.Coordinate.{Further}
pub use Rattle.egt_board.specs.Images.{side_number}
pub use Rattle.egt_board.specs.Mirror.{square_by}
pub use Rattle.egt_board.specs.Pawn.{Advances, forward, home_rank}
pub use Rattle.egt_board.specs.Square.{file_of, rank_of}
pub use Rattle.egt_board.specs.Step.{Away}
pub use Rattle.egt_board.specs.Symmetry.{square_if}
pub use Rattle.egt_board.specs.Turned.{turned_square}
pub use Rattle.egt_board.specs.declared.man.Kind.{Kind}
pub use Rattle.egt_board.specs.declared.man.Kind.TheVariants.{B, K, N, P, Q, R}
pub use Rattle.egt_board.specs.declared.man.Side.{Side}
pub use Rattle.egt_board.specs.declared.man.Side.TheVariants.{Black, White}
pub use Rattle.egt_board.specs.declared.mirror.Mirror.{Mirror}
pub use Rattle.egt_board.specs.declared.mirror.Mirror.TheVariants.{Colours, Diagonal, Files, Ranks}
pub use Rattle.egt_board.specs.declared.step.Step.{Step}
pub use Rattle.egt_board.specs.declared.step.Way.{Way}
pub use Rattle.egt_board.specs.declared.step.Way.TheVariants.{Down, Still, Up}
pub use Rattle.egt_lanes.specs.Advances.{AdvancesBy}
pub use Rattle.egt_lanes.specs.Alike.{AreVoidOrAlike}
pub use Rattle.egt_lanes.specs.Blocks.{IsOpen, at}
pub use Rattle.egt_lanes.specs.Moved.{beside, beyond}
pub use Rattle.egt_lanes.specs.Near.{IsVoidOrNear}
pub use Rattle.egt_lanes.specs.Pieces.{IsPiece}
pub use Rattle.egt_lanes.specs.Raised.{IsRaised}
pub use Rattle.egt_lanes.specs.Scores.{byte_score, due_score, reach_due_score, reach_score, zeroing_score}
pub use Rattle.egt_lanes.specs.Sweeps.{IsAhead, IsRay}
pub use Rattle.egt_lanes.specs.declared.load.TheConstants.{PAWN_SQUARES, TARGET_SQUARES}
pub use Rattle.egt_lanes.specs.declared.sets.TheConstants.{FILE_BITS, RANKS, SQUARES}
pub use Rattle.std.proofs.Math.ListN.{length-set, set}
pub use Rattle.std.proofs.Math.Nat.{div-div-eq-div-mul}
pub use Rattle.std.proofs.lemmas.Bool.{cases_eq, cases_lt, eqb-false, false≢true}
pub use Rattle.std.proofs.lemmas.Bool.Decides.{nat_tests}
pub use Rattle.std.proofs.lemmas.Grind.{get_or-set_at}
pub use Rattle.std.proofs.lemmas.List.{get_or-append_right, get_or-map, get_or_append_left, get_or_past, length-map}
pub use Rattle.std.proofs.lemmas.List.{take_all, take_more}
pub use Rattle.std.proofs.lemmas.Nat.{and_mask, div-add-mod', pow_pos}
pub use Rattle.std.proofs.lemmas.Nat.Bits.{and_pow, bit_at-lt, bit_at_cat_low}
pub use Rattle.std.proofs.lemmas.Simd.{Each1-replicate, bit_mask_l, get_or-replicate, get_or-zip2, get_or_narrower}
pub use Rattle.std.proofs.lemmas.Simd.{length-replicate, length-zip2, mask_l-mod}
pub use Rattle.std.specs.Int.{bit_at}
pub use Rattle.std.specs.List.{All, range_with_len}
