use Rattle.std.proofs.Common.{◌≡◌, arith, inl, inr, subst}
use Rattle.egt_check.specs.Prelude.{cases_lt, TellsVoid, size_of}
use Rattle.egt_check.proofs.lone_runs.tells_each_void.Goals as goal

pub loop-code-preserved : goal.loop-code-preserved
loop-code-preserved c = λ i below. elim (cases_lt i c.loop-code.code) [
  | inl early ↦ c.loop-code.invariant i early
  | inr from ↦ let here : c.loop-code.code ≡ i = omega (arith, below, from) in subst (TellsVoid c.args.table.now) here (c.tells_void.ensures c.if-not-tells_void.false)
]

pub returns : goal.returns
returns c = grind (arith, size_of, c.loop-code-test.false, c.size-code-end.ensures, c.class.ensures.class, c.loop-code.invariant)
