use Rattle.std.proofs.Common.{sym, ◌∙◌, slice_index}
use Rattle.egt_graph.specs.Prelude.{is_entry_of_round}
use Rattle.egt_graph.proofs.Ranges.{filter_below_yes, filter_below_no}
use Rattle.egt_graph.proofs.scan.push_places.Goals as goal
use Rattle.egt_graph.proofs.scan.push_places.Goals.{then-is_of_round, else-is_of_round}

pub loop-place-preserved : goal.loop-place-preserved
loop-place-preserved c =
    elim c.if-is_of_round.branch [
      | then-is_of_round w ↦
          let e = filter_below_yes (λ k. is_entry_of_round c.args.round (slice_index c.args.entries.now k)) c.loop-place.place (sym c.is_of_round.ensures ∙ w.if-is_of_round.true) in cc
      | else-is_of_round w ↦
          let e = filter_below_no (λ k. is_entry_of_round c.args.round (slice_index c.args.entries.now k)) c.loop-place.place (sym c.is_of_round.ensures ∙ w.if-is_of_round.false) in cc
    ]
