-- Verdicts as numbers.
use Rattle.std.specs.Prelude.{ℕ}
use Rattle.egt_probe.specs.declared.outcome.Outcome.{Outcome}
use Rattle.egt_probe.specs.declared.outcome.Outcome.TheVariants as outcomes
use Rattle.egt_probe.specs.declared.outcome.Verdict.{Verdict}
use Rattle.egt_c.specs.declared.verdict.EgtbAnswer.{EgtbAnswer}
use Rattle.egt_c.specs.Places.{winner_number}

abbrev pub shown_of : ℕ → Outcome → EgtbAnswer
shown_of class outcomes.Draw = record { class_number = class; outcome = 0; plies = 0; zeroing = 0 }
shown_of class outcomes.Dead = record { class_number = class; outcome = 1; plies = 0; zeroing = 0 }
shown_of class (outcomes.Decided winner plies zeroing) = record { class_number = class; outcome = winner_number winner; plies = plies; zeroing = zeroing }

abbrev pub shown : Verdict → EgtbAnswer
shown v = shown_of v.class v.value
