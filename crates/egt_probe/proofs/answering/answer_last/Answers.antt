use Rattle.std.proofs.Common.{◌≡◌, ◌↔◌, Bool, true, false, IsTrue, List, [], ◌∷◌, ℕ, sym, ◌∙◌, subst}
use Rattle.egt_probe.specs.Prelude.{on_ok_weaker, IfErr-weaker, Wrote, Stopped, with_front, loaded_in}
use Rattle.egt_probe.proofs.Answered.{last_line}
use Rattle.egt_probe.proofs.answering.answer_last.Goals as goal

-- the line is not empty
one_line : (line : List ℕ) (b : Bool) → b ≡ false → IsTrue b ↔ (line ≡ []) → with_front line [] ≡ line ∷ []
one_line line b off tells = last_line line (λ e. let bad : true ≡ false = sym (tells.1 e) ∙ off in cc)

pub returns-clause-reported : goal.returns-clause-reported
returns-clause-reported g c = on_ok_weaker c.push_report.result
    (λ wrote line holds. subst (λ (lines : List (List ℕ)). Wrote (loaded_in c.args.library.now) lines (g.K.Sink.written c.args.sink.now) (g.K.Sink.written c.push_report.new.sink))
    (sym (one_line line c.is_empty.result c.if-is_empty.false (c.is_empty.ensures line holds))) (wrote line holds))
    c.push_report.ensures.reported

pub returns-clause-fault : goal.returns-clause-fault
returns-clause-fault g c = IfErr-weaker c.push_report.result _ _
    (λ fault stopped line holds. subst (λ (lines : List (List ℕ)). Stopped (loaded_in c.args.library.now) fault lines (g.K.Sink.written c.args.sink.now) (g.K.Sink.written c.push_report.new.sink))
    (sym (one_line line c.is_empty.result c.if-is_empty.false (c.is_empty.ensures line holds))) (stopped line holds))
    c.push_report.ensures.fault
