-- The names that contracts and proofs cite, passed on from one place.
pub use Rattle.arrayvec.specs.ArrayVec.{array_vec_len}
pub use Rattle.egt_board.specs.Man.{other_side}
pub use Rattle.egt_board.specs.Setup.{IsAdmissible, Setup}
pub use Rattle.egt_board.specs.declared.man.Kind.{Kind}
pub use Rattle.egt_board.specs.declared.man.Kind.TheVariants.{B, K, N, P, Q, R}
pub use Rattle.egt_board.specs.declared.man.Side.{Side}
pub use Rattle.egt_board.specs.declared.man.Side.TheVariants.{Black, White}
pub use Rattle.egt_check.specs.Reading.{shown_once}
unfoldable pub use Rattle.egt_class.specs.Children.{children_of}
pub use Rattle.egt_class.specs.Membership.{IsOf}
pub use Rattle.egt_entries.specs.Entry.{IsShort, Shows, entry_of}
pub use Rattle.egt_entries.specs.Library.{IsShelved}
pub use Rattle.egt_entries.specs.Reach.{ShowsReach}
pub use Rattle.egt_entries.specs.Tables.{Tables, entry_at, reach_at, table_at}
pub use Rattle.egt_entries.specs.Truth.{IsTrueReach, IsTrueTable, Tells}
pub use Rattle.egt_entries.specs.declared.metric.Metric.{Metric}
pub use Rattle.egt_entries.specs.declared.metric.Metric.TheVariants.{Mate, Zeroing}
pub use Rattle.egt_fen.specs.declared.fen.Fen.{Fen}
pub use Rattle.egt_index.specs.Index.{IsIndex}
pub use Rattle.egt_moves.specs.WinLossDraw.{AvoidsMateBefore, CannotMateBefore, Draw, HasValue, IsDraw, IsMatedWithin, Loss}
pub use Rattle.egt_moves.specs.WinLossDraw.{MatesWithin, SomeMove, Value, Win}
pub use Rattle.egt_moves.specs.Chess.{chess}
pub use Rattle.egt_moves.specs.Entries.{SameKind}
pub use Rattle.egt_moves.specs.Found.{mate_by}
pub use Rattle.egt_moves.specs.Legal.{IsLegal, Leads}
pub use Rattle.egt_moves.specs.Order.{IsInOrder, place_of, promotion_place}
pub use Rattle.egt_moves.specs.Reach.{HasReach, IsDead}
pub use Rattle.egt_moves.specs.Standing.{CanMove, IsStalemate, IsStuck, StandsAs}
pub use Rattle.egt_moves.specs.Text.{text_of}
pub use Rattle.egt_moves.specs.Zeroing.{HasZeroing}
pub use Rattle.egt_moves.specs.declared.chess_move.Move.{Move}
pub use Rattle.egt_moves.specs.declared.outcome.Standing.{Standing}
pub use Rattle.egt_moves.specs.declared.outcome.Standing.TheVariants.{Checkmate, HasMove, Stalemate}
pub use Rattle.egt_probe.specs.Answer.{Advanced, AnsweredAll, AnsweredSome, AreLinesOf, CountsEither, CountsSink, Holds}
pub use Rattle.egt_probe.specs.Answer.{Reports, Stopped, StoppedIn, Wrote, WroteBy, WroteFront}
pub use Rattle.egt_probe.specs.Best.{IsBest, best_value}
pub use Rattle.egt_probe.specs.Calls.{TellsHold, TellsLine, TellsVerdict}
pub use Rattle.egt_probe.specs.Facts.{Facts}
pub use Rattle.egt_probe.specs.Fault.{IsDecisive, IsHoldFault, IsLineFault}
pub use Rattle.egt_probe.specs.Hold.{IsHold}
pub use Rattle.egt_probe.specs.Line.{IsBestPlay, IsFirstTo, IsLine, next_value, plies_of}
pub use Rattle.egt_probe.specs.Lines.{lines_of, with_byte, with_front}
pub use Rattle.egt_probe.specs.Loaded.{IsLoaded, IsMissing, IsOfClass, Loaded}
pub use Rattle.egt_probe.specs.Report.{Answered, Dead, Decisive, Drawn, Long, PositionReport, Refused, Report, Unloaded}
pub use Rattle.egt_probe.specs.Report.{most, verdict_of}
pub use Rattle.egt_probe.specs.Root.{IsBestFirst, IsRoot, IsTold, Precedes, rank_of}
pub use Rattle.egt_probe.specs.Search.{IsFirstWith, Misses, ShowsValue}
pub use Rattle.egt_probe.specs.Shelves.{loaded_in}
pub use Rattle.egt_probe.specs.Text.{dead_text, decided_text, drawn_text, held_text, long_text, missing_text}
pub use Rattle.egt_probe.specs.Text.{moves_text, refused_text, side_name}
pub use Rattle.egt_probe.specs.Verdict.{IsVerdict, IsWithin, TellsDead, mate_value, zeroing_value}
pub use Rattle.egt_probe.specs.declared.fault.AnswerFault.{AnswerFault}
pub use Rattle.egt_probe.specs.declared.fault.AnswerFault.TheVariants.{Device}
pub use Rattle.egt_probe.specs.declared.fault.HoldFault.{HoldFault}
pub use Rattle.egt_probe.specs.declared.fault.LineFault.{LineFault}
pub use Rattle.egt_probe.specs.declared.fault.LineFault.TheVariants.{NoMemory}
pub use Rattle.egt_probe.specs.declared.open_line.OpenLine.{OpenLine}
pub use Rattle.egt_probe.specs.declared.outcome.Missing.{Missing}
pub use Rattle.egt_probe.specs.declared.outcome.Outcome.{Outcome}
pub use Rattle.egt_probe.specs.declared.outcome.Verdict.{Verdict}
pub use Rattle.egt_probe.specs.declared.ranking.RootMove.{RootMove}
pub use Rattle.egt_table.specs.Stream.{AppendsFront, CountsFailure}
pub use Rattle.egt_table.specs.Table.{TableValue}
pub use Rattle.std.proofs.KnownBytes.{Appends-kept, Appends-nil, Appends-trans, Consumes-kept, Consumes-nil}
pub use Rattle.std.proofs.KnownBytes.{Consumes-trans}
pub use Rattle.std.proofs.Math.Logic.{⊎_elim}
pub use Rattle.std.proofs.Math.Seq.{take-append-add, take-append_seam}
pub use Rattle.std.proofs.lemmas.Bool.{cases_lt}
pub use Rattle.std.proofs.lemmas.Bool.Decides.{eqb_tells}
pub use Rattle.std.proofs.lemmas.List.{get_or_default, take-append-drop, take_all, take_more}
pub use Rattle.std.proofs.lemmas.Result.{IfErr-weaker, IfOk-weaker, err_from_is_err_and, on_ok_weaker}
pub use Rattle.std.specs.Io.KnownBytes.{Appends, Consumes, IsAtEnd, Keeps}
pub use Rattle.std.specs.List.{Contains, flat_map, insert}
