use Rattle.std.proofs.Common.{◌≡◌, ◌≢◌, arith}
use Rattle.egt_index.specs.Prelude.{Kind, P, kind_less}
use Rattle.egt_index.proofs.digits.digit.Goals as goal

-- of no other man than a pawn the digit is less than the square
no_less : (kind : Kind) → kind ≢ P → kind_less kind ≡ 0
no_less kind not = grind arith

pub returns-in_default-clause-value : goal.returns-in_default-clause-value
returns-in_default-clause-value c = let none = no_less c.args.man.kind c.in_default.not-P in let is = c.number-in_default.ensures.value in omega arith
