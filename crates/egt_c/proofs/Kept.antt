-- Facts of a library that is lent are facts of the one that the handle holds.
use Rattle.std.proofs.Common.{◌≡◌, Option, Some, IfSome, sym, subst, IfOk, IfErr, MatchResult, Result, Ok, Err}
use Rattle.egt_c.specs.Prelude.{Places}
use Rattle.egt_board.specs.Setup.{Setup}
use Rattle.egt_c.specs.Calls.{Tells, Answered, Refused}
use Rattle.egt_c.specs.declared.fault.EgtbFault.{EgtbFault}

pub if_held : (h : Option Places) (boxed lent : Places) (P : Places → Type 0) → h ≡ Some boxed → lent ≡ boxed → P lent → IfSome h P
if_held h boxed lent P taken same holds = subst (λ (o : Option Places). IfSome o P) (sym taken) (subst P same holds)

-- what is told of a position, or its fault, is told of what was given
pub told_of : {X : Type 0} {Is : Setup → Type 0} {Refuses : EgtbFault → Type 0} {P : Setup → EgtbFault → X → X → Type 0}
    {fault : EgtbFault} {before after : X} (r : Result Setup EgtbFault) → IfOk r Is → IfErr r Refuses
    → MatchResult r (λ p. P p fault before after) (λ f. (fault ≡ f) × (after ≡ before)) → Tells Is Refuses P fault before after
told_of (Ok p) is none told = Answered p is told
told_of {Refuses = Refuses} (Err f) none is told = Refused (subst Refuses (sym told.0) is) told.1
