-- The names that contracts and proofs cite, passed on from one place.
pub use Rattle.egt_board.specs.Setup.{Setup}
pub use Rattle.egt_entries.specs.Entry.{IsShort, entry_of, longest}
pub use Rattle.egt_entries.specs.FirstBad.{IsFirstBad, earlier}
pub use Rattle.egt_entries.specs.Fits.{Counts, FitsBeside, Shown}
pub use Rattle.egt_entries.specs.Raised.{AreRaised, AtMost, IsRaised, IsReached, best_in}
pub use Rattle.egt_entries.specs.Reach.{FitsReachBeside, IsReachDue, ShowsReach, ShowsReachOf}
pub use Rattle.egt_entries.specs.ReachJudged.{FindsReach}
pub use Rattle.egt_entries.specs.Rules.{FitsReach, IsJudged, IsJudgedBy, Keeps, KeepsBelow, KeepsReach, KeepsReachBelow}
pub use Rattle.egt_entries.specs.Rules.{rule_place}
pub use Rattle.egt_entries.specs.Score.{IsAtEnd, IsBest, IsCounted, IsDue, IsDueDraw, IsSaid, IsShownBy, Says, Scores}
pub use Rattle.egt_entries.specs.Score.{entry_before, greater, is_decisive, loss_in, number_at, score_of, value_of}
pub use Rattle.egt_entries.specs.Score.{win_in, zeroing_said}
pub use Rattle.egt_entries.specs.Tables.{Tables, reach_at}
pub use Rattle.egt_entries.specs.declared.by_metric.ByMetric.{ByMetric}
pub use Rattle.egt_entries.specs.declared.metric.Metric.{Metric}
pub use Rattle.egt_entries.specs.declared.metric.Metric.TheVariants.{Mate, Zeroing}
pub use Rattle.egt_entries.specs.declared.outcome.Outcome.{Outcome}
pub use Rattle.egt_entries.specs.declared.rule.Rule.{Rule}
pub use Rattle.egt_index.specs.Code.{Spells}
pub use Rattle.egt_index.specs.Index.{IsVoid}
pub use Rattle.egt_moves.specs.WinLossDraw.{Draw, Ends, IsStalemate, Loss, NoMove, SomeMove, Value, Win}
pub use Rattle.egt_moves.specs.Chess.{chess}
pub use Rattle.egt_moves.specs.Legal.{IsLegal, Leads}
pub use Rattle.egt_moves.specs.Standing.{StandsAs}
pub use Rattle.egt_moves.specs.declared.chess_move.Move.{Move}
pub use Rattle.egt_moves.specs.declared.outcome.Standing.{Standing}
pub use Rattle.egt_moves.specs.declared.outcome.Standing.TheVariants.{Checkmate, HasMove, Stalemate}
pub use Rattle.egt_table.specs.Table.{TableValue}
pub use Rattle.std.proofs.Math.Logic.{⊎_map}
pub use Rattle.std.proofs.lemmas.Bool.{cases_eq, cases_lt, le-leb, leb-true}
pub use Rattle.std.proofs.lemmas.List.{get_or_default}
pub use Rattle.std.proofs.lemmas.List.Kept.{AllPairs-from_increasing}
pub use Rattle.std.specs.List.{Contains}
pub use Rattle.std.specs.List.Sorted.{IsStrictlyIncreasing}
pub use Rattle.std.specs.Option.{IfNone}
