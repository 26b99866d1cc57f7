-- The names that contracts and proofs cite, passed on from one place.
pub use Rattle.egt_board.proofs.Hiding.{Reaches-target}
pub use Rattle.egt_board.proofs.SettledForms.{settles_admissible, settles_men, settles_settled}
pub use Rattle.egt_board.proofs.Sides.{side_twice, sides_differ}
pub use Rattle.egt_board.specs.AllMen.{HasBeside}
pub use Rattle.egt_board.specs.Attack.{IsInCheck, king_of}
pub use Rattle.egt_board.specs.AttackLines.{OneOf, Reaches, Reaches-free, Reaches-on_board, Rides, farthest, pawn_steps}
pub use Rattle.egt_board.specs.AttackLines.{step, steps_of}
pub use Rattle.egt_board.specs.DecidedMen.{decided_held}
unfoldable pub use Rattle.egt_board.specs.DecidedSetup.{settled_form}
pub use Rattle.egt_board.specs.Images.{kind_number, man_number, side_number, stands_here}
unfoldable pub use Rattle.egt_board.specs.Images.{count_of}
unfoldable pub use Rattle.egt_board.specs.Listed.{men_of}
pub use Rattle.egt_board.specs.Man.{other_side}
pub use Rattle.egt_board.specs.Pawn.{Advances, HasPawnBeside, IsBeside, ahead, forward, last_rank, pawn_of}
pub use Rattle.egt_board.specs.Placement.{IsFree, IsOccupiedBy, Placement, Stands, get-insert_other, get-insert_same}
pub use Rattle.egt_board.specs.Placement.{get-remove_other, get-remove_same, one_man, same_men}
pub use Rattle.egt_board.specs.Settled.{IsSettled, SettlesTo}
pub use Rattle.egt_board.specs.Setup.{IsAdmissible, Setup}
pub use Rattle.egt_board.specs.Square.{rank_of}
pub use Rattle.egt_board.specs.Step.{Away}
pub use Rattle.egt_board.specs.Target.{IsTarget, target_rank}
pub use Rattle.egt_board.specs.Turned.{turned_man}
pub use Rattle.egt_board.specs.declared.man.Kind.{Kind}
pub use Rattle.egt_board.specs.declared.man.Kind.TheVariants.{B, K, N, P, Q, R}
pub use Rattle.egt_board.specs.declared.man.Man.{Man}
pub use Rattle.egt_board.specs.declared.man.Side.{Side}
pub use Rattle.egt_board.specs.declared.man.Side.TheVariants.{Black, White}
pub use Rattle.egt_board.specs.declared.step.Step.{Step}
pub use Rattle.egt_board.specs.declared.step.Way.{Way}
pub use Rattle.egt_board.specs.declared.step.Way.TheVariants.{Down, Still, Up}
pub use Rattle.egt_class.proofs.CountsAgree.{all_agree}
pub use Rattle.egt_class.proofs.ClassTests.{covered, either, smaller}
pub use Rattle.egt_class.proofs.NonKings.{OneKing}
pub use Rattle.egt_class.proofs.PairTable.{one_king_in}
unfoldable pub use Rattle.egt_class.specs.Children.{children_of}
unfoldable pub use Rattle.egt_class.specs.Material.{material_of, men_in}
pub use Rattle.egt_class.specs.Membership.{IsOf}
pub use Rattle.egt_class.specs.Pair.{AreNonKings}
pub use Rattle.egt_index.proofs.After.{all_apart, all_there}
pub use Rattle.egt_index.proofs.FrameMen.{free_off, men_are}
pub use Rattle.egt_index.proofs.Listing.{AreApart, get_here, get_later, listed, listed_stands}
pub use Rattle.egt_index.proofs.Setups.{apart_all, free_of}
pub use Rattle.egt_index.proofs.MenPlaced.{counted_turned, turned_back}
pub use Rattle.egt_index.proofs.ToldMen.{no_target, untargeted_settled}
pub use Rattle.egt_index.specs.Index.{IsIndex}
pub use Rattle.egt_index.specs.Picked.{AreCounted}
pub use Rattle.egt_index.specs.Spelled.{IsListed}
pub use Rattle.egt_index.specs.Stood.{AllApart, AllStand, Entry, HasStand, IsOff, Stood, list_of, men_among}
pub use Rattle.egt_index.specs.Went.{IsMovedStand, moved_entry, moved_square}
pub use Rattle.egt_index.specs.declared.shelf_codes.ShelfMen.{ShelfMen}
pub use Rattle.egt_index.specs.declared.stand.Stand.{Stand}
pub use Rattle.egt_moves.proofs.Admissible.{not_two, pawn_told, takes_forward_of, two_forward, two_ranks_told}
pub use Rattle.egt_moves.proofs.MenAfter.{arriving_side, may_become, not_free, target_is}
pub use Rattle.egt_moves.proofs.SafeGoals.{not_passing}
pub use Rattle.egt_moves.specs.Chess.{IsPawnOn, Zeroes}
pub use Rattle.egt_moves.specs.Exchange.{Captures, Exchanges}
pub use Rattle.egt_moves.specs.Going.{Goes, PawnAdvances}
pub use Rattle.egt_moves.specs.Legal.{IsLegal, Leads, after, is_target, is_two_ranks, men_after, men_left, passed}
pub use Rattle.egt_moves.specs.Legal.{plain, takes_in_passing}
pub use Rattle.egt_moves.specs.Promotion.{FitsPromotion, IsOfficer, arriving, is_pawn, promotes}
pub use Rattle.egt_moves.specs.Targets.{IsLegalTarget}
pub use Rattle.egt_moves.specs.declared.chess_move.Move.{Move}
pub use Rattle.egt_steps.specs.Facts.{Facts}
pub use Rattle.egt_steps.specs.Frame.{IsMoved}
pub use Rattle.egt_steps.specs.InPassing.{AreTwoRanksApart, IsOfFourKinds, IsPassingCapture, IsPassingFrom}
pub use Rattle.egt_steps.specs.InPassing.{LeavesTarget}
pub use Rattle.egt_steps.specs.PawnMoves.{IsAdvance, IsAdvanceFrom, IsClassAfter, IsClassOfTwo, IsPromotingCapture}
pub use Rattle.egt_steps.specs.PawnMoves.{IsPromotingCaptureFrom, officer_of, stand_after, stand_in, stand_two}
pub use Rattle.egt_steps.specs.QuietAlone.{IsQuietAlone, NoneZeroes, stand_alone}
pub use Rattle.egt_steps.specs.QuietStands.{IsClear, IsQuietStand}
pub use Rattle.egt_steps.specs.QuietTarget.{IsQuietTarget}
pub use Rattle.egt_steps.specs.Stands.{IsBesideKing, king_of_men, stand_on, with_king}
pub use Rattle.egt_steps.specs.StepCodes.{moved_stand}
pub use Rattle.egt_steps.specs.Takings.{IsClassOf, IsPastKings, IsPlainCapture, IsTaken, Left, left_of, stand_left}
pub use Rattle.std.proofs.lemmas.Bool.{and_parts, cases_eq, eq-eqb, false≢true, lt-ltb}
pub use Rattle.std.proofs.lemmas.Bool.Decides.{eqb_tells}
pub use Rattle.std.specs.Int.{bit_at}
pub use Rattle.std.specs.List.{Contains}
pub use Rattle.std.specs.Option.{is_some, option_map, option_to_list}
