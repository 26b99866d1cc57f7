-- The names that contracts and proofs cite, passed on from one place.
pub use Rattle.egt_graph.specs.Batch.{IsTargets}
pub use Rattle.egt_graph.specs.Begin.{Adds, IsBegun, IsFilled}
pub use Rattle.egt_graph.specs.Columns.{Amid, Await, Hold, Marks, TakesBack, count_of, decided, done_by, done_of}
pub use Rattle.egt_graph.specs.Columns.{entry_at, has_moves, ins, is_known_loss, is_known_win, is_loss, is_loss_of}
pub use Rattle.egt_graph.specs.Columns.{is_open_at, is_win_from, is_win_of, is_winning, later_at, leaves, outs}
pub use Rattle.egt_graph.specs.Columns.{waits_at}
pub use Rattle.egt_graph.specs.Due.{AreDue, IsAsGood, IsAsNear, IsBest, IsDueAt, IsNext, Measure, SameNext}
pub use Rattle.egt_graph.specs.Due.{near_outside, nears, value_before, values}
pub use Rattle.egt_graph.specs.Events.{AfterEvents, Closed, EachRoundIsOfItsRank, Event, EventsLeave, Expanded}
pub use Rattle.egt_graph.specs.Events.{FinishedRunsAgree, Received, Runs, Steps, is_end, is_next, is_running}
pub use Rattle.egt_graph.specs.Events.{phase_after, phase_by, ticked_after, ticked_by}
pub use Rattle.egt_graph.specs.Frontier.{blocks_of, entry_front, front, front-ascends, frontier_below}
pub use Rattle.egt_graph.specs.Frontier.{is_entry_of_round, is_node}
pub use Rattle.egt_graph.specs.Graph.{Graph, HasShortDistance, IsAlike, IsGame, IsNode}
pub use Rattle.egt_graph.specs.Near.{AreFound, AreNears, AreTold, Finds, HasNear, IsNearing, IsNearingTo, IsOver}
pub use Rattle.egt_graph.specs.Near.{IsShort, NoneLater, SomeFar, found_by, is_near_exit, led_from, near_at}
pub use Rattle.egt_graph.specs.Near.{near_before, near_entry_of, near_of_entry, near_within}
pub use Rattle.egt_graph.specs.Rounds.{AllPosted, Closes, ClosesIn, ClosesRunning, IsCurrent, Posts, State, begun}
pub use Rattle.egt_graph.specs.Rounds.{is_posted, is_posted_in, listed, listed_in, none_posted}
pub use Rattle.egt_graph.specs.Run.{Holds, IsRun, IsSchedule}
pub use Rattle.egt_graph.specs.Value.{AreRanks, HasRank, IsWithin, NoneAbove, SomeAbove, decided_within, entry_of}
pub use Rattle.egt_graph.specs.Value.{has_move, is_empty, is_lost_before, is_won_before, mated_before, mated_within}
pub use Rattle.egt_graph.specs.Value.{mates_before, mates_within}
pub use Rattle.egt_graph.specs.declared.answer.Close.{Close}
pub use Rattle.egt_graph.specs.declared.answer.Phase.{Phase}
pub use Rattle.egt_graph.specs.declared.answer.Phase.TheVariants.{Finished, Running}
pub use Rattle.egt_graph.specs.declared.answer.Post.TheVariants.{Posted, Repeat, Stale}
pub use Rattle.egt_graph.specs.declared.game.Exit.{Exit}
pub use Rattle.egt_graph.specs.declared.game.Exit.TheVariants.{Draw, Loss, Win}
pub use Rattle.egt_graph.specs.declared.nearing.Nearing.{Nearing}
pub use Rattle.egt_graph.specs.declared.solver.SolveFault.TheVariants.{NoMemory}
pub use Rattle.std.proofs.lemmas.Bool.{and_from, and_left, and_parts, and_right, both_ways, cases_Bool, cases_eq}
pub use Rattle.std.proofs.lemmas.Bool.{cases_lt, cases_order, eq-eqb, eqb-true, false_from_ne_true, false≢true, le-leb}
pub use Rattle.std.proofs.lemmas.Bool.{le-ltb, lt-leb, lt-ltb, ltb-true, ne_eqb, not_from_false, or_cases, or_from}
pub use Rattle.std.proofs.lemmas.Bool.{or_left, or_right, true≢false}
pub use Rattle.std.proofs.lemmas.Grind.{common_steps}
pub use Rattle.std.proofs.lemmas.List.{append-nil, drop_all, ext_get_or, get_or-replicate, get_or-set_other}
pub use Rattle.std.proofs.lemmas.List.{get_or-set_same, get_or_append_left, get_or_default, get_or_past, get_or_push}
pub use Rattle.std.proofs.lemmas.List.{length-replicate, length-set, length_push, take_all, with_items_is}
pub use Rattle.std.proofs.lemmas.List.Elements.{All-contains, All-contains_itself, All-head, All-tail, All-weaker}
pub use Rattle.std.proofs.lemmas.List.Elements.{Contains-append_cases, Contains-append_left, Contains-append_right}
pub use Rattle.std.proofs.lemmas.List.Elements.{filter-append}
pub use Rattle.std.proofs.lemmas.List.FromFn.{length-range_with_len}
pub use Rattle.std.proofs.lemmas.List.Sums.{AllPass-from_list_all, count_by-le-length, length-filter}
pub use Rattle.std.proofs.lemmas.List.Sums.{list_all-from_AllPass, sum_by-cons, sum_by_more}
pub use Rattle.std.proofs.lemmas.Result.{IfOk-weaker}
pub use Rattle.std.specs.List.{list_all, list_any, range_with_len}
pub use Rattle.std.specs.List.Sorted.{IsStrictlyIncreasing}
pub use Rattle.std.specs.Option.{option_map}
