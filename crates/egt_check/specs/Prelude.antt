-- The names that contracts and proofs cite, passed on from one place.
pub use Rattle.egt_blocks.proofs.BlockRaising.{raised_alike, raised_by_none}
pub use Rattle.egt_blocks.proofs.ShelfRead.{bit_few, bit_of, code_in_shelf, first_of_shelf, first_within, pawn_digits}
pub use Rattle.egt_blocks.proofs.ShelfRead.{pawn_of_digits, piece_at, piece_digits, places_is, row_read, side_few}
pub use Rattle.egt_blocks.proofs.ShelfRead.{square_in}
pub use Rattle.egt_blocks.proofs.ShelfRuns.{run_at}
pub use Rattle.egt_blocks.specs.Blocks.{AreShelvesOf, with_kings}
pub use Rattle.egt_blocks.specs.Kept.{AreKept}
pub use Rattle.egt_blocks.specs.Leaps.{AreStill}
pub use Rattle.egt_blocks.specs.Scored.{IsRead, ScoresNoVoids}
pub use Rattle.egt_blocks.specs.ShelfRow.{IsShelfRow}
pub use Rattle.egt_blocks.specs.Taken.{AreLeftCodes, IsLastTaken, men_swapped}
pub use Rattle.egt_blocks.specs.declared.kept_blocks.BlockKey.{BlockKey}
pub use Rattle.egt_board.proofs.Sides.{sides_differ}
pub use Rattle.egt_board.specs.Attack.{king_of}
pub use Rattle.egt_board.specs.AttackLines.{Reaches-on_board}
pub use Rattle.egt_board.specs.Decided.{Decided, tells, tells_so, tells_where}
pub use Rattle.egt_board.specs.DecidedSetup.{decided_admissible}
pub use Rattle.egt_board.specs.Images.{AreImages, side_number}
pub use Rattle.egt_board.specs.Man.{other_side}
pub use Rattle.egt_board.specs.Pawn.{MayStand, ahead, last_rank, pawn_of}
pub use Rattle.egt_board.specs.Placement.{IsOccupiedBy, Stands, one_man}
pub use Rattle.egt_board.specs.Settled.{IsSettled, SettlesTo}
pub use Rattle.egt_board.specs.Setup.{IsAdmissible, Setup}
pub use Rattle.egt_board.specs.Square.{rank_of}
pub use Rattle.egt_board.specs.SquareSet.{Has}
pub use Rattle.egt_board.specs.Turned.{turned_man}
pub use Rattle.egt_board.specs.declared.man.Kind.{Kind}
pub use Rattle.egt_board.specs.declared.man.Kind.TheVariants.{B, K, N, P, Q, R}
pub use Rattle.egt_board.specs.declared.man.Man.{Man}
pub use Rattle.egt_board.specs.declared.man.Side.{Side}
pub use Rattle.egt_board.specs.declared.man.Side.TheVariants.{Black, White}
pub use Rattle.egt_board.specs.declared.square_set.SquareSet.{SquareSet}
pub use Rattle.egt_check.specs.Alike.{StepAlike}
pub use Rattle.egt_check.specs.Alone.{AreThreeMen, IsDueAlone, IsJudgedRow, IsToldTable, KeepsCode, MayJudge}
pub use Rattle.egt_check.specs.Blank.{AreBlank, IsBlank}
pub use Rattle.egt_check.specs.Found.{AreFound, AreTold, IsNearScore, IsPutIn, IsToldAt, IsToldEntry, IsToldFrom}
pub use Rattle.egt_check.specs.Found.{IsValueScore, TellColumn, TellsEntry, near_told, table_told, told, value_told}
pub use Rattle.egt_check.specs.Given.{AreAlike, AreGiven, HasScores, IsGiven, IsKnown, IsZeroingScore}
pub use Rattle.egt_check.specs.MoveScores.{AreAllScores, AreChildren, AreExits, AreFourMenTables, AreMoveScores}
pub use Rattle.egt_check.specs.MoveScores.{ArePassingScores, ArePassingCaptures, AreTablesOf, AreZeroingMoves}
pub use Rattle.egt_check.specs.MoveScores.{HoldsExits, HoldsPassing}
pub use Rattle.egt_check.specs.Own.{entries_seen}
pub use Rattle.egt_check.specs.PairOrder.{nth_pair}
pub use Rattle.egt_check.specs.Pairs.{AreJudgedPairs, ArePairs, IsJudgedPair}
pub use Rattle.egt_check.specs.Parts.{IsKnownToTell, IsOwnTable, TellsPart, children_in, column_of, four_in, promotion_in, promotions_in}
pub use Rattle.egt_check.specs.Parts.{some_promotions_in, table_in, tables_in}
pub use Rattle.egt_check.specs.PawnScores.{AreAdvanceScores, AreNamed, AreOwnPawnMoves, ArePawnScores}
pub use Rattle.egt_check.specs.PawnScores.{ArePromotionScores, ArePromotionsOf, AreRaisedByPawns, HasPromotion}
pub use Rattle.egt_check.specs.PawnScores.{HasPromotions, IsBestPromotion, IsPromotionOf, IsPromotionScore}
pub use Rattle.egt_check.specs.PawnScores.{IsRaisedByPawn}
pub use Rattle.egt_check.specs.Place.{HasReachAt, IsPlaceOf}
pub use Rattle.egt_check.specs.Put.{IsPut}
pub use Rattle.egt_check.specs.ReachScores.{AreAllReachScores, AreAllScoresOf, ArePassingReachScores, AreReachScores}
pub use Rattle.egt_check.specs.Reading.{in_range, read, read_shown, shown_once, shown_range}
pub use Rattle.egt_check.specs.RightBlock.{AreJudged, IsRightLane, KeepsPart}
pub use Rattle.egt_check.specs.RightRow.{IsRightAt, IsRightAtOf, IsRightEnd, IsRightEndOf, IsRightReachEnd, due_in}
pub use Rattle.egt_check.specs.Runs.{AreRuns, IsMarked}
pub use Rattle.egt_check.specs.ScoreRows.{AreDrawnOrNone, CodeScores, HasNoVoidScore, IsDrawnIndex, IsLaneIn, IsMaskOf}
unfoldable pub use Rattle.egt_check.specs.ScoreRows.{scores_in}
pub use Rattle.egt_check.specs.Taken.{IsTableAfter, IsTableOf}
pub use Rattle.egt_check.specs.Voids.{AreAllAlike, TellsVoid, TellsVoids, TellsVoidsIn}
pub use Rattle.egt_check.specs.Worth.{HasBytes, IsBestOf, IsBestWith, IsScoreWith, column_score, entry_score, score_at}
pub use Rattle.egt_check.specs.declared.found.Found.TheInside.{Inside}
pub use Rattle.egt_check.specs.declared.lone_judging.ThreeMen.{ThreeMen}
pub use Rattle.egt_check.specs.declared.move_scores.Children.{Children}
pub use Rattle.egt_check.specs.declared.move_scores.FourMenTables.{FourMenTables}
pub use Rattle.egt_check.specs.declared.pairs.Pairs.{Pairs}
pub use Rattle.egt_check.specs.declared.part.Part.{Part}
pub use Rattle.egt_check.specs.declared.part.Part.TheVariants.{Reach, Values}
pub use Rattle.egt_check.specs.declared.pawn_scores.Promotion.{Promotion}
pub use Rattle.egt_check.specs.declared.pawn_scores.Promotions.{Promotions}
pub use Rattle.egt_check.specs.declared.runs.Runs.{Runs}
pub use Rattle.egt_check.specs.declared.successors.Place.{Place}
unfoldable pub use Rattle.egt_class.specs.Children.{children_of}
unfoldable pub use Rattle.egt_class.specs.Material.{has_equal_sides, material_of}
pub use Rattle.egt_class.specs.Membership.{IsOf}
pub use Rattle.egt_class.specs.Pair.{AreNonKings}
pub use Rattle.egt_entries.proofs.Ascending.{first_is_least}
pub use Rattle.egt_entries.proofs.Carry.{PlaysLike, ShownAlike, carry}
pub use Rattle.egt_entries.proofs.Due.{ComesOf, IsOne, IsShownOf, at_end_due, both_due, mate_said, stale_unless_mated}
pub use Rattle.egt_entries.proofs.Due.{zeroing_is_said}
pub use Rattle.egt_entries.proofs.Judged.{first_bad_more, keeps_both, keeps_more, keeps_reach_more}
pub use Rattle.egt_entries.proofs.BestGrows.{Tried, best_found, listed_there, none_found, raised_is, tried_all}
pub use Rattle.egt_entries.proofs.BestGrows.{tried_before, tried_listed, tried_more, tried_none, untried}
pub use Rattle.egt_entries.proofs.ReachRule.{reach_judged}
pub use Rattle.egt_entries.specs.Entry.{Shows, entry_of, longest}
pub use Rattle.egt_entries.specs.FirstBad.{IsFirstBad, IsFirstBadReach, earlier}
pub use Rattle.egt_entries.specs.Fits.{FitsBeside, Shown}
pub use Rattle.egt_entries.specs.Judged.{Agree, Finds, FindsVoid, IsCompared, IsOfKind, rule_of}
pub use Rattle.egt_entries.specs.Library.{IsAccepted, IsFirstBreak, IsFirstLacking, IsFirstMissing, IsLibrary}
pub use Rattle.egt_entries.specs.Library.{IsRefused, IsShelved, IsTurnedAway, LacksReach, ReachesDown}
pub use Rattle.egt_entries.specs.NearTables.{near_entry, near_if, near_of, near_table, near_tables}
pub use Rattle.egt_entries.specs.Nearest.{IsNearest, nearer}
pub use Rattle.egt_entries.specs.Raised.{AreRaised}
pub use Rattle.egt_entries.specs.Reach.{FitsReachBeside, HasReachEntry, IsReachDue, ShowsReach, ShowsReachOf}
pub use Rattle.egt_entries.specs.Reach.{reach_entry_of}
pub use Rattle.egt_entries.specs.ReachJudged.{FindsReach}
pub use Rattle.egt_entries.specs.Rules.{FitsReach, IsJudged, IsJudgedBy, Keeps, KeepsBelow, KeepsReach}
pub use Rattle.egt_entries.specs.Rules.{KeepsReachBelow, KeepsRules}
pub use Rattle.egt_entries.specs.Score.{IsAtEnd, IsBest, IsCounted, IsDue, IsDueDraw, IsSaid, IsShownBy, Scores}
pub use Rattle.egt_entries.specs.Score.{entry_before, greater, number_at, score_of, value_of, zeroing_said}
pub use Rattle.egt_entries.specs.Steps.{IsInClass, shown_by}
pub use Rattle.egt_entries.specs.Tables.{HasChildren, HasEntry, HasReachChildren, ShowsOf, Tables, beside, entries_in}
pub use Rattle.egt_entries.specs.Tables.{entry_at, reach_at, table_at}
pub use Rattle.egt_entries.specs.Truth.{HasTrueChildren, HasTrueReachesBelow, HasTrueValues, HasTrueValuesBelow}
pub use Rattle.egt_entries.specs.Truth.{IsTrueReach, IsTrueTable, Tells}
pub use Rattle.egt_entries.specs.declared.by_metric.ByMetric.{ByMetric}
pub use Rattle.egt_entries.specs.declared.metric.Metric.{Metric}
pub use Rattle.egt_entries.specs.declared.metric.Metric.TheVariants.{Mate, Zeroing}
pub use Rattle.egt_entries.specs.declared.outcome.Outcome.{Outcome}
pub use Rattle.egt_entries.specs.declared.reject.Reject.{Reject}
pub use Rattle.egt_entries.specs.declared.reject.Reject.TheVariants.{AlreadyThere, Missing, NoReach, Rejected}
pub use Rattle.egt_entries.specs.declared.rule.Rule.{Rule}
pub use Rattle.egt_index.proofs.NumbersOfCodes.{code_high, code_low, code_plain, half_twice, of_targets}
pub use Rattle.egt_index.specs.Code.{Spells}
pub use Rattle.egt_index.specs.Index.{IsIndex, IsVoid, SettleAlike}
pub use Rattle.egt_index.specs.LoneCodes.{IsLoneMan, IsLoneRow, lone_stand}
unfoldable pub use Rattle.egt_index.specs.Numbers.{code_of, half_of, number_of, places}
pub use Rattle.egt_index.specs.Scales.{ends_of, kind_digits, kind_less}
pub use Rattle.egt_index.specs.ShelfCodes.{AreIndexed, AreIndexes, AreMenOf, HasTwoBeside, IsShelf, IsShelfOf, IsWithin}
pub use Rattle.egt_index.specs.ShelfCodes.{number_in, stand_with}
pub use Rattle.egt_class.specs.Size.{has_target, men_in_order}
unfoldable pub use Rattle.egt_class.specs.Size.{size_of}
pub use Rattle.egt_index.specs.Spelled.{IsListed}
pub use Rattle.egt_index.specs.Stood.{AllStand, HasStand, IsFilled, list_of, men_among}
pub use Rattle.egt_index.specs.TellsMen.{TellsMen}
pub use Rattle.egt_index.specs.TurnedMen.{IsSomeTurnedCode, IsSomeTurnedCodeWith, swapped}
pub use Rattle.egt_index.specs.Went.{AreOnBoard}
pub use Rattle.egt_index.specs.declared.places.Places.{Places}
pub use Rattle.egt_index.specs.declared.shelf_codes.ShelfMen.{ShelfMen}
pub use Rattle.egt_index.specs.declared.stand.Stand.{Stand}
pub use Rattle.egt_lanes.proofs.RaisedTwice.{raised_as}
pub use Rattle.egt_lanes.proofs.Rows.{other, select}
pub use Rattle.egt_lanes.proofs.Tests.{agreed}
pub use Rattle.egt_lanes.specs.Alike.{AreDecided, AreVoidOrAlike}
pub use Rattle.egt_lanes.specs.Blocks.{at}
pub use Rattle.egt_lanes.specs.Near.{IsVoidOrNear}
pub use Rattle.egt_lanes.specs.Raised.{IsRaised}
pub use Rattle.egt_lanes.specs.Scores.{byte_score, due_score, reach_due_score, reach_score, zeroing_score}
pub use Rattle.egt_moves.proofs.Admissible.{pawn_told}
pub use Rattle.egt_moves.specs.WinLossDraw.{Draw, EachMove, Loss, NoMove, Value, Win}
pub use Rattle.egt_moves.specs.Chess.{Zeroes, chess}
pub use Rattle.egt_moves.specs.DecidedMoves.{decided_zeroes, leads_to_one}
pub use Rattle.egt_moves.specs.Entries.{IsLeast, SameKind}
pub use Rattle.egt_moves.specs.Exchange.{Captures}
pub use Rattle.egt_moves.specs.Legal.{IsLegal, Leads}
pub use Rattle.egt_moves.specs.Promotion.{FitsPromotion, IsOfficer, arriving, is_pawn, promotes}
pub use Rattle.egt_moves.specs.Reach.{HasReach}
pub use Rattle.egt_moves.specs.Standing.{StandsAs}
pub use Rattle.egt_moves.specs.declared.chess_move.Move.{Move}
pub use Rattle.egt_moves.specs.declared.outcome.Standing.{Standing}
pub use Rattle.egt_moves.specs.declared.outcome.Standing.TheVariants.{Checkmate, HasMove, Stalemate}
pub use Rattle.egt_steps.proofs.Leaping.{settled_index}
pub use Rattle.egt_steps.proofs.LeftTargets.{unpromoted}
pub use Rattle.egt_steps.proofs.PawnCaptures.{promoted}
pub use Rattle.egt_steps.proofs.Still.{pawn_is}
pub use Rattle.egt_steps.proofs.MenListed.{AreTwo, are_in, who}
pub use Rattle.egt_steps.specs.Facts.{Facts}
pub use Rattle.egt_steps.specs.InPassing.{AreLeapCodes, ArePassingCodes, AreStepCodes, IsOfFourKinds, IsPassingCapture}
pub use Rattle.egt_steps.specs.InPassing.{IsPassingFrom, LeavesTarget}
pub use Rattle.egt_steps.specs.PawnMoves.{AreAdvancedCodes, ArePromotedCodes, IsAdvance, IsAdvanceFrom, IsClassAfter}
pub use Rattle.egt_steps.specs.PawnMoves.{IsPromotingCapture, IsPromotingCaptureFrom, men_after, officer_of}
pub use Rattle.egt_steps.specs.PawnMoves.{stand_after, stand_in}
pub use Rattle.egt_steps.specs.QuietAlone.{AreCodesAlone, IsQuietAlone, NoneZeroes, stand_alone}
pub use Rattle.egt_steps.specs.QuietStands.{AreQuietCodes, IsClear, IsQuietStand}
pub use Rattle.egt_steps.specs.Stands.{IsBesideKing, men_on, stand_on, with_king}
pub use Rattle.egt_steps.specs.Takings.{IsClassOf, IsPastKings, IsPlainCapture, IsTaken, Left, left_of, stand_left}
pub use Rattle.egt_table.specs.Table.{HasColumn, IsTable, TableValue, entries_of, entries_or_none}
pub use Rattle.egt_table.specs.declared.column.Column.{Column}
pub use Rattle.std.proofs.Math.ListN.{get_or-eq_default, get_or-map}
pub use Rattle.std.proofs.Math.Logic.{⊎_elim, ⊎_map}
pub use Rattle.std.proofs.Math.Nat.{div-le_self, mul-le-mul_right}
pub use Rattle.std.proofs.lemmas.Bool.{and_parts, cases_eq, cases_lt, cond_above, cond_below, eq-eqb, eqb-true}
pub use Rattle.std.proofs.lemmas.Bool.{false≢true, ne_eqb}
pub use Rattle.std.proofs.lemmas.Bool.Decides.{eqb_tells, nat_tests}
pub use Rattle.std.proofs.lemmas.Grind.{get_or-set_at}
pub use Rattle.std.proofs.lemmas.List.{ext_get_or, get_or-append_right, get_or-replicate, get_or-set_other}
pub use Rattle.std.proofs.lemmas.List.{get_or-set_same, get_or_append_left, get_or_default, get_or_past, length-map}
pub use Rattle.std.proofs.lemmas.List.{length-replicate, length-set}
pub use Rattle.std.proofs.lemmas.List.FromFn.{get_or-map-range_with_len, length-map-range_with_len}
pub use Rattle.std.proofs.lemmas.Nat.{div-add-mod', div-mul-add, div_below, mod-mul-add, mod_below, shr-shr}
pub use Rattle.std.proofs.lemmas.Nat.Bits.{bit_at-lt, bit_at-zero, bit_at_cat_high, bit_at_cat_low}
pub use Rattle.std.proofs.lemmas.Simd.{Each1-get_or}
pub use Rattle.std.specs.Int.{bit_at}
pub use Rattle.std.specs.List.{Contains, range_with_len}
pub use Rattle.std.specs.List.Sorted.{IsStrictlyIncreasing}
pub use Rattle.std.specs.Option.{is_some, option_map, option_to_list}
