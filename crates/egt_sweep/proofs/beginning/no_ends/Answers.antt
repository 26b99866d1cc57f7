use Rattle.std.proofs.Common.{replicate, inl, inr}
use Rattle.egt_sweep.specs.FillPrelude.{cases_lt, get_or-replicate, get_or_past, no_squares}
use Rattle.egt_sweep.proofs.beginning.no_ends.Goals as goal

pub returns : goal.returns
returns c = λ s. elim (cases_lt s 64) [
  | inl below ↦ get_or-replicate 64 s no_squares no_squares below
  | inr past ↦ get_or_past (replicate 64 no_squares) s no_squares past
]
