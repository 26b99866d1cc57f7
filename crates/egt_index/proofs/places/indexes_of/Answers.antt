use Rattle.std.proofs.Common.{arith, ◌≡◌, ◌<◌, ◌*◌, ◌≤◌, Option, Some, IfSome, IfNone, Bool, ℕ, sym, subst, ◌∙◌}
use Rattle.egt_index.specs.Prelude.{false≢true, IsSome, places, IsShelfBehind, IsWithin, size_of}
use Rattle.egt_index.proofs.NumbersOfCodes.{of_targets, places_some}
use Rattle.egt_index.proofs.Numbered.{no_indexes}
use Rattle.egt_index.proofs.places.indexes_of.Goals as goal

-- past the last shelf there is none
found : (c shelf : ℕ) (o : Option (ℕ × Bool)) → c < 36 → IsWithin c shelf → IfNone o (size_of c ≤ shelf * (2 * places c)) → IsSome o
found c shelf o c_in within past = grind (arith, places_some)

pub unwrap-number-requires : goal.unwrap-number-requires
unwrap-number-requires c = found c.args.class c.args.shelf c.prefix_number.result (omega (arith, c.number-number.ensures.below, c.number-number.ensures.value)) c.requires c.prefix_number.ensures.past

behind : (class shelf : ℕ) (o : Option (ℕ × Bool)) (x : ℕ × Bool) → o ≡ Some x → IfSome o (λ found. IsShelfBehind found.1 class shelf found.0) → IsShelfBehind x.1 class shelf x.0
behind class shelf o x is at = subst (λ (o : Option (ℕ × Bool)). IfSome o (λ found. IsShelfBehind found.1 class shelf found.0)) is at

pub returns-then-not-may_pass : goal.returns-then-not-may_pass
returns-then-not-may_pass c =
    let at = behind c.args.class c.args.shelf c.prefix_number.result c.unwrap-number.result c.unwrap-number.ensures c.prefix_number.ensures.behind in
    no_indexes c.args.class c.args.shelf c.unwrap-number.result.0 (omega (arith, c.number-number.ensures.below, c.number-number.ensures.value))
    (of_targets c.args.class (λ none. absurd (false≢true (sym (at.may none) ∙ c.if-targeted.true))) (λ has. has))
    (subst (λ (targeted : Bool). IsShelfBehind targeted c.args.class c.args.shelf c.unwrap-number.result.0) c.if-targeted.true at) (c.may_pass.ensures c.if-not-may_pass.true) c.default.result c.default.ensures.0 c.default.ensures.1 c.facts.ensures
