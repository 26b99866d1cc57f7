-- The names that contracts and proofs cite, passed on from one place.
pub use Rattle.arrayvec.specs.ArrayVec.{array_vec_len}
pub use Rattle.egt_board.specs.Decided.{Decided, decided_as, tells, tells_so, tells_where}
pub use Rattle.egt_board.specs.DecidedMen.{decided_kind, decided_on}
pub use Rattle.egt_board.specs.DecidedSetup.{decided_admissible}
unfoldable pub use Rattle.egt_board.specs.DecidedSetup.{settled_form}
pub use Rattle.egt_board.specs.DecidedTurns.{IsTurn, decided_turn}
pub use Rattle.egt_board.specs.Images.{AreImages}
pub use Rattle.egt_board.specs.Pawn.{last_rank}
pub use Rattle.egt_board.specs.Placement.{Placement, Stands}
pub use Rattle.egt_board.specs.Settled.{IsSettled, SettlesTo}
pub use Rattle.egt_board.specs.Setup.{IsAdmissible, Setup}
pub use Rattle.egt_board.specs.Square.{rank_of}
pub use Rattle.egt_board.specs.declared.man.Kind.{Kind}
pub use Rattle.egt_board.specs.declared.man.Kind.TheVariants.{B, K, N, P, Q, R}
pub use Rattle.egt_board.specs.declared.man.Man.{Man}
pub use Rattle.egt_check.proofs.BelowTrue.{reaches_below, values_below}
pub use Rattle.egt_check.specs.Place.{IsPlaceOf}
pub use Rattle.egt_check.specs.Reading.{in_range, read, read_shown}
unfoldable pub use Rattle.egt_class.specs.Children.{children_of}
unfoldable pub use Rattle.egt_class.specs.Material.{material_of}
pub use Rattle.egt_class.specs.Membership.{IsOf}
pub use Rattle.egt_entries.specs.Entry.{Shows, longest}
pub use Rattle.egt_entries.specs.Library.{IsAccepted, IsShelved, ReachesDown}
pub use Rattle.egt_entries.specs.NearTables.{near_entry, near_if, near_of, near_table, near_tables}
pub use Rattle.egt_entries.specs.Reach.{ShowsReach}
pub use Rattle.egt_entries.specs.Rules.{KeepsRules}
pub use Rattle.egt_entries.specs.Tables.{HasChildren, HasReachChildren, Tables, beside, entry_at, reach_at, table_at}
pub use Rattle.egt_entries.specs.Truth.{HasTrueChildren, HasTrueReachesBelow, HasTrueValuesBelow, IsTrueReach}
pub use Rattle.egt_entries.specs.Truth.{IsTrueTable, Tells}
pub use Rattle.egt_entries.specs.declared.metric.Metric.{Metric}
pub use Rattle.egt_entries.specs.declared.metric.Metric.TheVariants.{Mate, Zeroing}
pub use Rattle.egt_graph.specs.Graph.{Graph, IsNode}
pub use Rattle.egt_graph.specs.Near.{AreNears, HasNear, IsShort, SomeFar, is_near_exit, near_entry_of, near_within}
pub use Rattle.egt_graph.specs.Filtered.{first_is_least, passing_has, passing_is, passing_is_below, passing_passes}
unfoldable pub use Rattle.egt_graph.specs.Filtered.{passing_below}
pub use Rattle.egt_graph.specs.Value.{AreRanks, HasRank, IsWithin, SomeAbove, decided_within, entry_of, has_move}
pub use Rattle.egt_graph.specs.Value.{is_empty, is_lost_before, is_won_before, mated_within, mates_within}
pub use Rattle.egt_graph.specs.declared.game.Exit.{Exit}
pub use Rattle.egt_index.specs.Code.{Spells, SpellsBy}
pub use Rattle.egt_index.specs.DecidedSpelled.{decided_spelled}
pub use Rattle.egt_index.specs.Index.{IsIndex, IsVoid}
unfoldable pub use Rattle.egt_class.specs.Size.{size_of}
pub use Rattle.egt_moves.proofs.Admissible.{pawn_told}
pub use Rattle.egt_moves.specs.AllMen.{AreMenOf}
pub use Rattle.egt_moves.specs.WinLossDraw.{AvoidsMateFor, CannotMateWithin, Draw, HasMove, HasValue, IsLost, IsMatedWithin}
pub use Rattle.egt_moves.specs.WinLossDraw.{IsStalemate, IsWon, Loss, MatesWithin, SomeMove, Value, Win}
pub use Rattle.egt_moves.specs.Chess.{IsPawnOn, Zeroes, chess}
pub use Rattle.egt_moves.specs.DecidedMoves.{decided_checkmate, decided_zeroes}
pub use Rattle.egt_moves.specs.Entries.{Fits, JudgedOver}
pub use Rattle.egt_moves.specs.Exchange.{Captures}
pub use Rattle.egt_moves.specs.Legal.{IsLegal, Leads}
pub use Rattle.egt_moves.specs.Moves.{played}
unfoldable pub use Rattle.egt_moves.specs.Moves.{moves_of}
pub use Rattle.egt_moves.specs.Promotion.{FitsPromotion, is_pawn, promotes}
pub use Rattle.egt_moves.specs.Reach.{HasReach, ReachesMateWithin}
pub use Rattle.egt_moves.specs.Standing.{IsCheckmate, StandsAs}
pub use Rattle.egt_moves.specs.Zeroing.{HasZeroing, ZeroesLosingWithin, ZeroesWinningWithin}
pub use Rattle.egt_moves.specs.declared.chess_move.Move.{Move}
pub use Rattle.egt_moves.specs.declared.outcome.Standing.{Standing}
pub use Rattle.egt_sweep.specs.Built.{AllWithinLimit, HasNoFalseChild, IsAboveLimit, IsBuilt, IsMigrated, IsNotBuilt}
pub use Rattle.egt_sweep.specs.Built.{IsNotMigrated, IsWithinLimit, SomeAboveLimit, SomeReachesFar}
pub use Rattle.egt_sweep.specs.ClassGame.{class_game, class_game_is_lawful}
pub use Rattle.egt_sweep.specs.Edges.{ComesFrom, Connects, GoesBack, GoesOn, IsAt, LeadsOn}
pub use Rattle.egt_sweep.specs.Laws.{Laws}
pub use Rattle.egt_sweep.specs.MateColumn.{IsIndexed, IsMateColumn, ShowsValues, mate_table}
pub use Rattle.egt_sweep.specs.Nodes.{connects_from, exit_by, exit_of, exits_by, exits_from, first_of, goes_on}
pub use Rattle.egt_sweep.specs.Nodes.{has_index, is_mated, is_number, is_turned, kept_if, leads_on, or_else, plies_left}
pub use Rattle.egt_sweep.specs.Nodes.{shown_in, spelled_by}
unfoldable pub use Rattle.egt_sweep.specs.Nodes.{connects, exits_at, index_in, position_at, shown_below, spelled}
pub use Rattle.egt_sweep.specs.Objective.{Knows, known, metric_of, reach_children_prop}
pub use Rattle.egt_sweep.specs.Plies.{Plies}
pub use Rattle.egt_sweep.specs.ReachGame.{as_win, reach_game, reach_game_is_lawful}
pub use Rattle.egt_sweep.specs.declared.build_fault.BuildFault.{BuildFault}
pub use Rattle.egt_sweep.specs.declared.objective.Objective.{Objective}
pub use Rattle.egt_table.specs.Table.{HasColumn, IsTable, TableValue, entries_of, entries_or_none}
pub use Rattle.egt_table.specs.declared.column.Column.{Column}
pub use Rattle.egt_unmoves.specs.Unmoves.{IsUnmove, TakesBack}
pub use Rattle.egt_unmoves.specs.declared.unmove.Unmove.{Unmove}
pub use Rattle.std.proofs.Math.Logic.{⊎_elim, ⊎_map}
pub use Rattle.std.proofs.lemmas.Bool.{and_parts, cases_eq, cases_lt, eq-eqb, eqb-true, false≢true, lt-ltb, ltb-true}
pub use Rattle.std.proofs.lemmas.Bool.{not-true}
pub use Rattle.std.proofs.lemmas.Grind.{flat_map-append}
pub use Rattle.std.proofs.lemmas.List.{append-nil, get_or_default, take_all, take_more}
pub use Rattle.std.proofs.lemmas.List.Edits.{get_or-insert_above, get_or-insert_at, get_or-insert_below, length-insert}
pub use Rattle.std.proofs.lemmas.List.Folds.{Any-from_list_any, list_any-from_Any}
pub use Rattle.std.proofs.lemmas.List.Kept.{AllPairs-from_increasing}
pub use Rattle.std.specs.List.{Contains, flat_map, insert, list_all, list_any}
pub use Rattle.std.specs.List.Sorted.{IsStrictlyIncreasing}
pub use Rattle.std.specs.Option.{is_some, option_map, option_to_list}
