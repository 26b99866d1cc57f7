use Rattle.std.specs.Prelude.{ℕ, ◌<◌}
use Rattle.egt_check.specs.Prelude.{code_of, number_in, IsToldEntry, IsToldFrom}
use Rattle.egt_check.proofs.found.tell_side.Given as goal

-- the codes of the digits so far are told
abbrev pub invariant-loop-digit : goal.invariant-loop-digit
invariant-loop-digit l = record {
  from : IsToldFrom l.column l.scores.scores l.fn.table l.table;
  told : (k : ℕ) → k < l.digit → IsToldEntry l.column l.scores.scores l.table (code_of l.fn.table.class (number_in l.fn.table.class l.fn.shelf l.fn.side k));
}
