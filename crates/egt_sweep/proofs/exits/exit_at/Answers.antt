use Rattle.std.proofs.Common.{ℕ, ◌<◌, refl, sym, ap, ◌∙◌, subst}
use Rattle.egt_sweep.specs.Prelude.{read, table_at, metric_of, known, exit_of}
use Rattle.egt_sweep.proofs.OwnColumn.{shown_known}
use Rattle.egt_sweep.proofs.exits.exit_at.Goals as goal

pub returns : goal.returns
returns c = λ q flipped ok of is_index.
    let below = subst (λ (n : ℕ). n < 36) c.number-number.ensures.value c.number-number.ensures.below in
    let tables = known (table_at c.args.library.now) c.args.own c.args.objective.now in
    let shown = shown_known c.laws.ensures tables c.args.class c.args.index c.mate_entry-entry.result q flipped below ok of is_index (tables c.args.class) refl c.requires.there c.mate_entry-entry.ensures.is in
    c.exit_shown.ensures ∙ ap (λ metric. exit_of metric (read c.mate_entry-entry.result)) c.metric.ensures ∙ ap (exit_of (metric_of c.args.objective.now)) (sym shown)
