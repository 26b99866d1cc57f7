use Rattle.std.proofs.Common.{◌≡◌, ◌<◌, ◌≤◌, Bool, MatchBool, List, ℕ, length, ◌∙◌, subst}
use Rattle.egt_probe.specs.Prelude.{IfOk-weaker, Report, most, loaded_in}
use Rattle.egt_probe.proofs.reporting.report.Goals as goal

pub returns-else-kept : goal.returns-else-kept
returns-else-kept c = IfOk-weaker c.line_report.result _ _
    (λ text told line holds.
    let kept = subst (λ (b : Bool). MatchBool b (most < length line) ((c.args.kept.now.bytes.items ≡ line) × (length line ≤ most))) c.if-kept.false holds in
    subst (λ (l : List ℕ). Report (loaded_in c.args.library.now) l text.items) (c.as_slice.ensures.value ∙ kept.0) told)
    c.line_report.ensures
