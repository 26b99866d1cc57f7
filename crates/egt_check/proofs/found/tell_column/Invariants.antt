use Rattle.std.specs.Prelude.{ℕ, ◌<◌}
use Rattle.egt_check.specs.Prelude.{Side, code_of, places, number_in, IsToldEntry, IsToldFrom}
use Rattle.egt_check.proofs.found.tell_column.Given as goal

-- the codes of the shelves so far are told
abbrev pub invariant-loop-shelf : goal.invariant-loop-shelf
invariant-loop-shelf l = record {
  from : IsToldFrom l.column l.scores.scores l.fn.table l.table;
  told : (shelf : ℕ) → shelf < l.shelf → (side : Side) (k : ℕ) → k < places l.fn.table.class → IsToldEntry l.column l.scores.scores l.table (code_of l.fn.table.class (number_in l.fn.table.class shelf side k));
}
