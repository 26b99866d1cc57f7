use Rattle.std.specs.Prelude.{◌≢◌, ◌<◌, ℕ}
use Rattle.egt_c.specs.Prelude.{name_of}
use Rattle.egt_c.proofs.class_calls.egtb_class.Given as goal

abbrev pub invariant-loop-number : goal.invariant-loop-number
invariant-loop-number l = (c : ℕ) → c < l.number → name_of c ≢ l.text
