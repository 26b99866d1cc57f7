-- The names that contracts and proofs cite, passed on from one place.
pub use Rattle.arrayvec.specs.ArrayVec.{array_vec_len}
pub use Rattle.egt_board.proofs.Facing.{attacks_back}
pub use Rattle.egt_board.proofs.Sides.{side_cases, side_twice, sides_differ}
pub use Rattle.egt_board.specs.Attack.{IsAttacked, IsInCheck, king_of}
pub use Rattle.egt_board.specs.AttackLines.{Reaches, Reaches-free, Rides-free}
pub use Rattle.egt_board.specs.Corners.{corners}
unfoldable pub use Rattle.egt_board.specs.DecidedSetup.{settled_form}
pub use Rattle.egt_board.specs.Images.{AreImages}
pub use Rattle.egt_board.specs.Man.{other_side}
pub use Rattle.egt_board.specs.Mirror.{square_by}
pub use Rattle.egt_board.specs.MirrorLaws.{square_by-twice, square_by-within}
pub use Rattle.egt_board.specs.Pawn.{Advances, HasNoPawn, HasPawnBeside, MayStand, ahead, farthest_advance, forward}
pub use Rattle.egt_board.specs.Pawn.{home_rank, last_rank, pawn_of}
pub use Rattle.egt_board.specs.Placement.{IsFree, IsOccupiedBy, Placement, Stands, get-insert_other, get-insert_same}
pub use Rattle.egt_board.specs.Placement.{get-remove_other, get-remove_same, one_man, same_men}
pub use Rattle.egt_board.specs.Safety.{IsKeptFrom}
pub use Rattle.egt_board.specs.Settled.{IsSettled, SettlesTo}
pub use Rattle.egt_board.specs.Setup.{HasKings, IsAdmissible, IsKingOn, Setup}
pub use Rattle.egt_board.specs.Square.{rank_of}
pub use Rattle.egt_board.specs.SquareSet.{Has, size_of-some}
unfoldable pub use Rattle.egt_board.specs.SquareSet.{size_of}
pub use Rattle.egt_board.specs.Step.{Away}
pub use Rattle.egt_board.specs.Symmetry.{KeepsPlay, square_if, square_of}
pub use Rattle.egt_board.specs.Target.{FitsTarget, IsTarget, target_rank}
pub use Rattle.egt_board.specs.Turned.{IsSetBy, IsTurnedBy, turned_man, turned_square}
unfoldable pub use Rattle.egt_board.specs.Turned.{turned_by}
pub use Rattle.egt_board.specs.declared.man.Kind.{Kind}
pub use Rattle.egt_board.specs.declared.man.Kind.TheVariants.{B, K, N, P, Q, R}
pub use Rattle.egt_board.specs.declared.man.Man.{Man}
pub use Rattle.egt_board.specs.declared.man.Side.{Side}
pub use Rattle.egt_board.specs.declared.man.Side.TheVariants.{Black, White}
pub use Rattle.egt_board.specs.declared.mirror.Mirror.{Mirror}
pub use Rattle.egt_board.specs.declared.mirror.Mirror.TheVariants.{Colours, Diagonal, Files, Ranks}
pub use Rattle.egt_board.specs.declared.square_set.SquareSet.{SquareSet}
pub use Rattle.egt_moves.specs.Chess.{IsPawnOn}
pub use Rattle.egt_moves.specs.DecidedMoves.{goes_on_board}
pub use Rattle.egt_moves.specs.Going.{Goes}
pub use Rattle.egt_moves.specs.Legal.{Leads, after, is_target, is_two_ranks, men_after, men_left, passed, plain}
pub use Rattle.egt_moves.specs.Legal.{takes_in_passing}
pub use Rattle.egt_moves.specs.Promotion.{FitsPromotion, arriving, is_pawn, promotes}
pub use Rattle.egt_moves.specs.Room.{most_goals}
pub use Rattle.egt_moves.specs.Turned.{turned_move}
pub use Rattle.egt_moves.specs.declared.chess_move.Move.{Move}
pub use Rattle.egt_unmoves.specs.Order.{ComesFirst, IsInOrder, ListsBelow, place_of, target_place}
pub use Rattle.egt_unmoves.specs.Targets.{advanced_rank}
pub use Rattle.egt_unmoves.specs.Unmoves.{ComesBy, GoesOver, IsUnmove, MayComeFrom, MayHaveLeft, TakesBack, Went}
pub use Rattle.egt_unmoves.specs.Unmoves.{led_to, men_before, setup_before}
pub use Rattle.egt_unmoves.specs.declared.unmove.Unmove.{Unmove}
pub use Rattle.std.proofs.lemmas.Bool.{cases_eq, cases_lt, false≢true}
pub use Rattle.std.proofs.lemmas.Bool.Decides.{eqb_tells}
pub use Rattle.std.proofs.lemmas.List.Elements.{Contains-append_left, Contains-push, Contains-push_cases}
pub use Rattle.std.proofs.lemmas.Nat.Bits.{bit_at-lt}
pub use Rattle.std.specs.Cmp.{nat_cmp_total}
pub use Rattle.std.specs.Int.{bit_at}
pub use Rattle.std.specs.List.{Contains}
pub use Rattle.std.specs.Option.{is_some, option_map}
pub use Rattle.std.specs.Ordering.{nat_cmp}
