use Rattle.std.specs.Prelude.{◌≢◌, ◌<◌, ℕ}
use Rattle.egt_class.specs.Prelude.{name_of}
use Rattle.egt_class.proofs.naming.by_name.Given as goal

abbrev pub invariant-loop-number : goal.invariant-loop-number
invariant-loop-number l = (c : ℕ) → c < l.number → name_of c ≢ l.text
