-- The names that contracts and proofs cite, passed on from one place.
pub use Rattle.egt_blocks.proofs.ShelfRead.{side_few, square_in}
pub use Rattle.egt_blocks.specs.Blocks.{AreShelvesOf, with_kings}
pub use Rattle.egt_blocks.specs.Kept.{AreKept, IsKept, IsPlaced, wide_place}
pub use Rattle.egt_blocks.specs.Taken.{men_swapped}
pub use Rattle.egt_blocks.specs.declared.kept_blocks.BlockKey.{BlockKey}
pub use Rattle.egt_board.proofs.Parts.{heads, tails}
pub use Rattle.egt_board.specs.Attack.{king_of}
pub use Rattle.egt_board.specs.Images.{side_number}
pub use Rattle.egt_board.specs.Man.{other_side}
pub use Rattle.egt_board.specs.Setup.{Setup}
pub use Rattle.egt_board.specs.SquareSet.{Has}
pub use Rattle.egt_board.specs.Turned.{turned_side, turned_square}
pub use Rattle.egt_board.specs.declared.man.Kind.{Kind}
pub use Rattle.egt_board.specs.declared.man.Kind.TheVariants.{B, K, N, P, Q, R}
pub use Rattle.egt_board.specs.declared.man.Man.{Man}
pub use Rattle.egt_board.specs.declared.man.Side.{Side}
pub use Rattle.egt_board.specs.declared.man.Side.TheVariants.{Black, White}
pub use Rattle.egt_board.specs.declared.square_set.SquareSet.{SquareSet}
pub use Rattle.egt_check.proofs.BlankKept.{blank_kept}
pub use Rattle.egt_check.proofs.ByteJudged.{if_not, if_same}
pub use Rattle.egt_check.proofs.TableFound.{beside_other, beside_own}
pub use Rattle.egt_check.proofs.FoundTold.{told_at, told_none}
pub use Rattle.egt_check.proofs.LaneRight.{right_lane}
pub use Rattle.egt_check.proofs.NearReading.{near_at}
pub use Rattle.egt_check.proofs.PromotionTables.{children_there, four_there, tables_of_there}
pub use Rattle.egt_check.proofs.RowJudged.{lane_is}
pub use Rattle.egt_check.specs.Alone.{AreThreeMen, IsToldTable, MayJudge}
pub use Rattle.egt_check.specs.Blank.{AreBlank}
pub use Rattle.egt_check.specs.Found.{IsPutIn, IsToldAt, TellColumn, TellsEntry, table_told, told}
pub use Rattle.egt_check.specs.Given.{AreAlike, IsKnown}
pub use Rattle.egt_check.specs.MoveScores.{AreAllScores, AreChildren, AreFourMenTables, AreMoveScores, AreTablesOf}
pub use Rattle.egt_check.specs.MoveScores.{AreZeroingMoves, HoldsExits}
pub use Rattle.egt_check.specs.Pairs.{ArePairs}
pub use Rattle.egt_check.specs.Parts.{IsOwnTable, column_of, four_in, table_in, tables_in}
pub use Rattle.egt_check.specs.PawnScores.{ArePawnScores, AreRaisedByPawns, IsRaisedByPawn}
pub use Rattle.egt_check.specs.ReachScores.{AreAllReachScores, AreAllScoresOf, AreReachScores}
pub use Rattle.egt_check.specs.RightBlock.{AreJudged, IsRightLane, KeepsPart}
pub use Rattle.egt_check.specs.RightRow.{IsRightAtOf, IsRightEnd, IsRightEndOf, IsRightReachEnd, due_in}
pub use Rattle.egt_check.specs.ScoreRows.{AreDrawnOrNone, CodeScores, HasNoVoidScore, IsDrawnIndex, IsLaneIn, IsMaskOf}
pub use Rattle.egt_check.specs.Worth.{HasBytes, column_score, entry_score, score_at}
pub use Rattle.egt_check.specs.declared.move_scores.Children.{Children}
pub use Rattle.egt_check.specs.declared.move_scores.FourMenTables.{FourMenTables}
pub use Rattle.egt_check.specs.declared.part.Part.{Part}
pub use Rattle.egt_check.specs.declared.part.Part.TheVariants.{Reach, Values}
pub use Rattle.egt_check.specs.declared.pawn_scores.Promotions.{Promotions}
unfoldable pub use Rattle.egt_class.specs.Children.{children_of}
unfoldable pub use Rattle.egt_class.specs.Material.{has_equal_sides, material_of}
pub use Rattle.egt_entries.specs.Entry.{Shows}
pub use Rattle.egt_entries.specs.Library.{ReachesDown}
pub use Rattle.egt_entries.specs.NearTables.{near_entry}
pub use Rattle.egt_entries.specs.Rules.{KeepsReachBelow, KeepsRules}
pub use Rattle.egt_entries.specs.Score.{IsAtEnd}
pub use Rattle.egt_entries.specs.Tables.{HasChildren, HasReachChildren, Tables, beside, entry_at, reach_at, table_at}
pub use Rattle.egt_entries.specs.Truth.{HasTrueChildren, IsTrueReach, IsTrueTable}
pub use Rattle.egt_entries.specs.declared.metric.Metric.{Metric}
pub use Rattle.egt_entries.specs.declared.metric.Metric.TheVariants.{Mate, Zeroing}
pub use Rattle.egt_sweep.specs.Begun.{AreNumbered, place_of}
pub use Rattle.egt_sweep.specs.Covered.{AreAllJudged, IsDueItem, tables_with}
pub use Rattle.egt_sweep.specs.Ends.{AreOfEnd, IsEndScore}
pub use Rattle.egt_sweep.specs.Filled.{IsDrawn, IsDrawnAt, IsReached, IsWithReach}
pub use Rattle.egt_sweep.specs.Forgotten.{AreFewer, AreForgotten}
pub use Rattle.egt_sweep.specs.Items.{AreBlockScores, AreItemScores, AreSeen, IsItem, IsRightItem, IsSameItem}
pub use Rattle.egt_sweep.specs.Items.{IsSeenItem, men_of, targeted_shelves_of, shelves_of}
pub use Rattle.egt_sweep.specs.Lone.{IsDueRow, IsLoneFilling, IsLonePiece}
pub use Rattle.egt_sweep.specs.Mended.{AllEnded, AreEnded, AreRightRows, IsCodeIn, IsCodeOf, IsLaneOf, IsMended}
pub use Rattle.egt_sweep.specs.Mended.{IsMendedAt, IsOfKings, IsPutAt, IsRightRow, IsRowSeen, IsShelf, no_squares}
pub use Rattle.egt_sweep.specs.Mended.{score_in, shelf_at}
pub use Rattle.egt_sweep.specs.Reads.{ReadsKings}
pub use Rattle.egt_sweep.specs.Rounds.{AreAllKept, AreBothKept, AreFreshItems, IsFreshItem, IsUntouched}
pub use Rattle.egt_sweep.specs.Settled.{AreAllDue, AreDue, AreScoresIn, IsFilling}
pub use Rattle.egt_sweep.specs.Stamps.{IsFresh, stamp_place}
pub use Rattle.egt_sweep.specs.Turns.{TakesKings, TurnsTo}
pub use Rattle.egt_sweep.specs.UnderWay.{IsLookedAt, IsStamped, IsUnderWay}
pub use Rattle.egt_sweep.specs.declared.filling.Filling.{Filling}
pub use Rattle.egt_sweep.specs.declared.items.Item.{Item}
pub use Rattle.egt_sweep.specs.declared.kept.Kept.{Kept}
pub use Rattle.egt_sweep.specs.declared.kept.Near.{Near}
pub use Rattle.egt_sweep.specs.declared.kept.Scores.{Scores}
pub use Rattle.egt_sweep.specs.declared.lone_mending.LoneFilling.{LoneFilling}
pub use Rattle.egt_sweep.specs.declared.mending.Mended.{Mended}
pub use Rattle.egt_check.specs.declared.shelf.Shelf.{Shelf}
pub use Rattle.egt_sweep.specs.declared.rounds.Visited.{Visited}
pub use Rattle.egt_sweep.specs.declared.put_due.Looks.{Looks}
pub use Rattle.egt_sweep.specs.declared.stamps.Marks.{Marks}
pub use Rattle.egt_index.proofs.Best.{turn_number}
pub use Rattle.egt_index.proofs.Led.{eight}
pub use Rattle.egt_index.proofs.MixedDigits.{number_from-same}
pub use Rattle.egt_index.proofs.TurnedMen.{undoing_in, undone}
unfoldable pub use Rattle.egt_index.proofs.TurnedMen.{undoing}
pub use Rattle.egt_index.specs.Code.{Spells, men_at}
pub use Rattle.egt_index.specs.Digits.{AreDigits}
pub use Rattle.egt_index.specs.Home.{IsTurnWith, symmetries}
pub use Rattle.egt_index.specs.Index.{IsIndex, IsVoid}
pub use Rattle.egt_index.specs.LoneCodes.{IsLoneMan, IsLoneRow}
unfoldable pub use Rattle.egt_index.specs.Numbers.{code_of, number_of}
pub use Rattle.egt_index.specs.Scales.{kind_digits, kind_less}
pub use Rattle.egt_index.specs.ShelfCodes.{AreMenOf, number_in, stand_with}
pub use Rattle.egt_class.specs.Size.{has_pawns, has_target, men_bases}
unfoldable pub use Rattle.egt_class.specs.Size.{size_of}
pub use Rattle.egt_index.specs.Stood.{list_of}
pub use Rattle.egt_index.specs.TellsMen.{TellsMen}
pub use Rattle.egt_index.specs.TurnedMen.{IsInEitherOrder, IsSeenBy, IsSomeTurnedCodeWith, turned_by}
pub use Rattle.egt_index.specs.declared.shelf_codes.ShelfMen.{ShelfMen}
pub use Rattle.egt_index.specs.declared.stand.Stand.{Stand}
pub use Rattle.egt_lanes.specs.Blocks.{at}
pub use Rattle.egt_lanes.specs.Raised.{IsRaised}
pub use Rattle.egt_lanes.specs.Scores.{byte_score, due_score, reach_score}
pub use Rattle.egt_steps.specs.InPassing.{AreLeapCodes, AreStepCodes}
pub use Rattle.egt_steps.specs.PawnMoves.{stand_after}
pub use Rattle.egt_steps.specs.QuietStands.{AreQuietCodes, IsQuietStand}
pub use Rattle.egt_steps.specs.Stands.{IsBesideKing, men_on, stand_on, with_king}
pub use Rattle.egt_table.specs.Table.{HasColumn, IsTable, TableValue, entries_of, entries_or_none}
pub use Rattle.egt_table.specs.declared.column.Column.{Column}
pub use Rattle.std.proofs.lemmas.Bool.{cases_eq, cases_lt, false≢true, ne_eqb}
pub use Rattle.std.proofs.lemmas.Bool.Decides.{nat_tests}
pub use Rattle.std.proofs.lemmas.List.{get_or-replicate, get_or-set_other, get_or-set_same, get_or_default, get_or_past}
pub use Rattle.std.proofs.lemmas.List.{length-set, set-get_or, with_items_is}
pub use Rattle.std.proofs.lemmas.List.Elements.{All-contains, All-push, All-same}
pub use Rattle.std.proofs.lemmas.Nat.{mul-le}
pub use Rattle.std.proofs.lemmas.Nat.Bits.{bit_at-lt, bit_at-zero}
pub use Rattle.std.specs.Int.{bit_at}
pub use Rattle.std.specs.List.{All}
pub use Rattle.std.specs.Vec.{with_items}
