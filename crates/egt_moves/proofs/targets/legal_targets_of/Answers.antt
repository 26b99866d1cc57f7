use Rattle.egt_moves.proofs.SafeGoals.{legal_target}
use Rattle.egt_moves.proofs.targets.legal_targets_of.Goals as goal

pub returns-clause-legal : goal.returns-clause-legal
returns-clause-legal c = λ t.
    let is = legal_target c.args.position.now c.args.man c.args.from t c.requires.stands c.requires.mine in
    let safe = c.legal_goals.ensures.safe t in
    (λ one. is.0 (safe.0 one), λ legal. safe.1 (is.1 legal))
