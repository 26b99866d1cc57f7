-- The names that contracts and proofs cite, passed on from one place.
pub use Rattle.arrayvec.specs.ArrayString.{array_string_len}
pub use Rattle.arrayvec.specs.ArrayVec.{array_vec_len}
pub use Rattle.egt_board.proofs.Sides.{side_twice, sides_differ}
pub use Rattle.egt_board.specs.AllMen.{AreApart, HasAllMen}
pub use Rattle.egt_board.specs.Among.{any_cons, any_here, any_there}
pub use Rattle.egt_board.specs.Attack.{IsAttacked, IsInCheck, king_of}
pub use Rattle.egt_board.specs.AttackLines.{OneOf, Reaches, Reaches-free, Rides, farthest, pawn_steps, steps_of}
pub use Rattle.egt_board.specs.Decided.{Decided, tells_so, tells_where}
pub use Rattle.egt_board.specs.DecidedMen.{on_square, squares_of}
pub use Rattle.egt_board.specs.Images.{AreImages, Reflects, stands_here}
unfoldable pub use Rattle.egt_board.specs.Images.{count_of}
pub use Rattle.egt_board.specs.Man.{other_side}
pub use Rattle.egt_board.specs.Mirror.{Allows, IsMirrored, man_by, side_by, square_by}
pub use Rattle.egt_board.specs.Mirrored.{AreMirrored, AreMirroredIf, ComesByMirrors}
pub use Rattle.egt_board.specs.NonKings.{StandsBeside}
pub use Rattle.egt_board.specs.Occupancy.{IsOccupancy}
pub use Rattle.egt_board.specs.Pawn.{Advances, HasNoPawn, HasPawnBeside, IsBeside, PawnsFit, ahead, farthest_advance}
pub use Rattle.egt_board.specs.Pawn.{home_rank, last_rank, pawn_of}
pub use Rattle.egt_board.specs.Placement.{IsFree, IsOccupiedBy, Placement, Stands, get-insert_other, get-insert_same}
pub use Rattle.egt_board.specs.Placement.{get-remove_other, get-remove_same, one_man}
pub use Rattle.egt_board.specs.Safety.{IsKeptFrom}
pub use Rattle.egt_board.specs.Settled.{IsSettled, SettlesTo, untargeted}
pub use Rattle.egt_board.specs.Setup.{HasKings, IsAdmissible, IsKingOn, Setup}
pub use Rattle.egt_board.specs.Square.{file_of, rank_of}
pub use Rattle.egt_board.specs.SquareSet.{Has}
unfoldable pub use Rattle.egt_board.specs.SquareSet.{size_of}
pub use Rattle.egt_board.specs.Symmetry.{KeepsPlay, square_if}
pub use Rattle.egt_board.specs.Target.{FitsTarget, IsTarget, target_rank}
pub use Rattle.egt_board.specs.Turned.{IsTurnedBy}
pub use Rattle.egt_board.specs.contracts.man.Side.{the_type}
pub use Rattle.egt_board.specs.declared.man.Kind.{Kind}
pub use Rattle.egt_board.specs.declared.man.Kind.TheVariants.{B, K, N, P, Q, R}
pub use Rattle.egt_board.specs.declared.man.Man.{Man}
pub use Rattle.egt_board.specs.declared.man.Side.{Side}
pub use Rattle.egt_board.specs.declared.man.Side.TheVariants.{Black, White}
pub use Rattle.egt_board.specs.declared.mirror.Mirror.{Mirror}
pub use Rattle.egt_board.specs.declared.mirror.Mirror.TheVariants.{Colours, Diagonal, Files, Ranks}
pub use Rattle.egt_board.specs.declared.occupancy.Occupancy.{Occupancy}
pub use Rattle.egt_board.specs.declared.square_set.SquareSet.{SquareSet}
pub use Rattle.egt_moves.specs.AllMen.{AreMenOf, entry_after, square_after}
pub use Rattle.egt_moves.specs.WinLossDraw.{AnswersWithin, Arena, AvoidsMateBefore, AvoidsMateFor, CannotMateBefore}
pub use Rattle.egt_moves.specs.WinLossDraw.{CannotMateWithin, Draw, EachMove, Ends, HasMove, HasValue, IsDraw, IsLost}
pub use Rattle.egt_moves.specs.WinLossDraw.{IsMatedWithin, IsStalemate, IsWon, Loss, MatesWithin, Next, NoMove, SameStep}
pub use Rattle.egt_moves.specs.WinLossDraw.{SomeMove, Successors, Value, Win}
pub use Rattle.egt_moves.specs.Chess.{IsPawnOn, Zeroes, chess}
pub use Rattle.egt_moves.specs.DecidedMoves.{decided_checkmate, decided_legal, decided_zeroes, goes_on_board}
pub use Rattle.egt_moves.specs.DecidedMoves.{leads_to_one}
pub use Rattle.egt_moves.specs.Entries.{Fits, FitsZeroing, Gives, JudgedOver, SameKind, ZeroingJudgedOver}
pub use Rattle.egt_moves.specs.Exchange.{Captures, Exchanges}
pub use Rattle.egt_moves.specs.Found.{found}
pub use Rattle.egt_moves.specs.Going.{Goes, PawnTakes, PieceGoes}
pub use Rattle.egt_moves.specs.Legal.{IsLegal, Leads, after, is_target, is_two_ranks, men_after, men_left, passed}
pub use Rattle.egt_moves.specs.Legal.{plain, takes_in_passing}
pub use Rattle.egt_moves.specs.Likeness.{Alike, Chain, HasLike, IsMirror, KeepsSteps}
pub use Rattle.egt_moves.specs.Moves.{is_legal, led_to, moves_between, played, promotions}
unfoldable pub use Rattle.egt_moves.specs.Moves.{all_moves, moves_below, moves_from, moves_of}
pub use Rattle.egt_moves.specs.Order.{IsInOrder, place_of, promotion_place}
pub use Rattle.egt_moves.specs.Promotion.{FitsPromotion, IsOfficer, arriving, is_pawn, promotes}
pub use Rattle.egt_moves.specs.Reach.{FitsReach, HasReach, IsDead, ReachJudgedOver, ReachesMateWithin}
pub use Rattle.egt_moves.specs.Reach.{ReachesNoMateBefore}
pub use Rattle.egt_moves.specs.Room.{HasRoom, king_square, most_choices, most_goals, most_moves, room_for_man}
pub use Rattle.egt_moves.specs.Room.{room_for_others}
pub use Rattle.egt_moves.specs.Standing.{CanMove, IsCheckmate, IsStuck, StandsAs}
pub use Rattle.egt_moves.specs.Targets.{IsLegalTarget, IsSafeGoal}
pub use Rattle.egt_moves.specs.Text.{kind_letter, square_text, text_of}
pub use Rattle.egt_moves.specs.Turned.{turned_move}
pub use Rattle.egt_moves.specs.Zeroing.{HasZeroing, ZeroesLosingWithin, ZeroesWinningWithin}
pub use Rattle.egt_moves.specs.declared.chess_move.Move.{Move}
pub use Rattle.std.proofs.Math.Logic.{⊎_elim, ⊎_map, ⊎_swap}
pub use Rattle.std.proofs.lemmas.Bool.{and_parts, cases_eq, cases_lt, eq-eqb, eqb-true, false≢true}
pub use Rattle.std.proofs.lemmas.Bool.Decides.{eqb_tells}
pub use Rattle.std.proofs.lemmas.List.{get_or_default, length-append}
pub use Rattle.std.proofs.lemmas.List.Elements.{Contains-append_cases, Contains-append_left, Contains-append_right}
pub use Rattle.std.proofs.lemmas.List.Elements.{Contains-push, Contains-push_cases}
pub use Rattle.std.proofs.lemmas.Nat.Bits.{bit_at-lt, bit_at_ones}
pub use Rattle.std.specs.Cmp.{nat_cmp_total}
pub use Rattle.std.specs.Int.{bit_at}
pub use Rattle.std.specs.List.{AllByRecursion, Any, Contains, cons_option, filter, filter_map}
pub use Rattle.std.specs.Option.{IsSome, IsSomeAnd, is_some, option_map}
