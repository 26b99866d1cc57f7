use Rattle.std.proofs.Common.{Some, ap, arith}
use Rattle.egt_sweep.specs.FillPrelude.{mul-le}
use Rattle.egt_sweep.proofs.rounds.mend_items.Goals as goal

pub returns-then-looks-eq0-clause-few : goal.returns-then-looks-eq0-clause-few
returns-then-looks-eq0-clause-few c = grind (arith, mul-le, c.loop-round.invariant.4, c.loop-round-test.true)

pub returns-then-looks-eq0-clause-fresh : goal.returns-then-looks-eq0-clause-fresh
returns-then-looks-eq0-clause-fresh c = c.in_ok-looks.ensures.fresh (ap Some c.if-looks-eq0.true)

pub returns-then-looks-eq0-clause-due : goal.returns-then-looks-eq0-clause-due
returns-then-looks-eq0-clause-due c = λ k d k_in. c.in_ok-looks.ensures.under.due k d k_in (c.in_ok-looks.ensures.fresh (ap Some c.if-looks-eq0.true) k d k_in k_in)
