use Rattle.std.proofs.Common.{◌≡◌, ◌≢◌, ◌++◌, ◌∷◌, ◌∙◌, Some, arith, ap, sym}
use Rattle.egt_index.specs.Prelude.{common_steps, option_to_list}
use Rattle.egt_index.proofs.prefix.first_of_two.Goals as goal

pub returns-then-ne-clause-first : goal.returns-then-ne-clause-first
returns-then-ne-clause-first c =
    let one_is : c.in_ok-first.field-0 ≡ c.in_ok-man.man = grind (arith, common_steps) in
    let apart : c.in_ok-last.field-0 ≢ c.in_ok-man.man = grind (arith, common_steps) in
    let first : c.non_kings-first.result.0 ≡ Some c.in_ok-man.man = c.in_ok-first.was ∙ ap Some one_is in
    let men = ap (λ o. option_to_list o ++ option_to_list c.non_kings-first.result.1) (sym first) ∙ c.non_kings-first.ensures.men in
    (c.in_ok-last.field-0, sym (ap (λ o. c.in_ok-man.man ∷ option_to_list o) (sym c.in_ok-last.was) ∙ men), (λ same. apart (sym same)))
