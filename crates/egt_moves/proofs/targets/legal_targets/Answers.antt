use Rattle.std.proofs.Common.{◌≡◌, ◌≤◌, rules, sym, subst, ◌∙◌}
use Rattle.egt_moves.specs.Prelude.{Stands, one_man, size_of, Man, most_goals}
use Rattle.egt_moves.proofs.SafeGoals.{legal_target, none_few}
use Rattle.egt_moves.proofs.targets.legal_targets.Goals as goal

pub returns-then-eq-clause-legal : goal.returns-then-eq-clause-legal
returns-then-eq-clause-legal c = λ t.
    let man = c.in-Some.man in
    let stands : Stands c.args.position.now.men c.args.from man = sym c.at.ensures ∙ c.in-Some.is in
    let mine : man.side ≡ c.args.position.now.side = search rules in
    let is = legal_target c.args.position.now man c.args.from t stands mine in
    let safe = c.legal_goals.ensures.safe t in
    (λ one. is.0 (safe.0 one), λ legal. safe.1 (is.1 legal))

pub returns-then-eq-clause-few : goal.returns-then-eq-clause-few
returns-then-eq-clause-few c man stands =
    let here : Stands c.args.position.now.men c.args.from c.in-Some.man = sym c.at.ensures ∙ c.in-Some.is in
    subst (λ (m : Man). size_of c.legal_goals.result ≤ most_goals m.kind) (one_man c.args.position.now.men c.args.from c.in-Some.man man here stands) c.legal_goals.ensures.few

pub returns-else-eq-clause-few : goal.returns-else-eq-clause-few
returns-else-eq-clause-few c man stands = none_few (most_goals man.kind)

pub returns-in_default-clause-few : goal.returns-in_default-clause-few
returns-in_default-clause-few c man stands = none_few (most_goals man.kind)
