use Rattle.std.proofs.Common.{ℕ, ◌+◌, ◌*◌, ◌<◌, ◌≤◌, Option, IfSome, IfNone, subst}
use Rattle.egt_sweep.specs.Prelude.{size_of, entry_at, Mate}
use Rattle.egt_sweep.proofs.WithinLimit.{all_within, some_above}
use Rattle.egt_sweep.proofs.limit.within_limit.Goals as goal

pub returns-in-Some-clause-above : goal.returns-in-Some-clause-above
returns-in-Some-clause-above c =
    let t = c.args.table in
    let within = subst (λ (o : Option ℕ). IfSome o (λ i. i < size_of t.class)) c.in-Some.is c.first_above.ensures.within in
    let above = subst (λ (o : Option ℕ). IfSome o (λ i. 3 + 2 * c.args.limit < entry_at t Mate i)) c.in-Some.is c.first_above.ensures.above in
    some_above c.laws.ensures t c.class-class.ensures.table.class_in c.requires.truth c.args.limit c.in-Some._index within above

pub returns-in-None-clause-within : goal.returns-in-None-clause-within
returns-in-None-clause-within c =
    let t = c.args.table in
    let all = subst (λ (o : Option ℕ). IfNone o ((i : ℕ) → i < size_of t.class → entry_at t Mate i ≤ 3 + 2 * c.args.limit)) c.in-None.is c.first_above.ensures.none in
    all_within c.laws.ensures t c.class-class.ensures.table.class_in c.requires.truth c.args.limit c.one_value.ensures.one all
