use Rattle.std.proofs.Common.{arith}
use Rattle.egt_check.proofs.blank.side_is_blank.Goals as goal

pub returns-then-half-eq0 : goal.returns-then-half-eq0
returns-then-half-eq0 c = grind (arith, c.shelves_are_blank.ensures, c.if-not-shelves_are_blank.false, c.if-half-eq0.true)

pub returns : goal.returns
returns c = λ told. (c.shelves_are_blank.ensures c.if-not-shelves_are_blank.false, c.shelves_are_blank-2.ensures told)
