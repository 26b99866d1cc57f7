use Rattle.std.specs.Prelude.{◌≡◌, take}
use Rattle.egt_fen.specs.Prelude.{digits_value}
use Rattle.egt_fen.proofs.counter.value_of.Given as goal

abbrev pub invariant-loop-digit : goal.invariant-loop-digit
invariant-loop-digit l = l.value ≡ digits_value 10 (take l.digit-index l.digits)
