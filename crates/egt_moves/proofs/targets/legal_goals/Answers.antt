use Rattle.std.proofs.lemmas.Nat.Bits.{bit_at-lt}
use Rattle.egt_moves.proofs.SafeGoals.{shield_goal}
use Rattle.egt_moves.proofs.targets.legal_goals.Goals as goal

pub returns-else-eq-clause-safe : goal.returns-else-eq-clause-safe
returns-else-eq-clause-safe c = λ t.
    shield_goal c.args.position.now c.args.man c.args.from t _ _ _ (bit_at-lt c.targets-goals.result.bits t) (bit_at-lt c.shields.result.bits t) (c.intersection.ensures.squares t) (c.targets-goals.ensures.goes t) (c.shields.ensures t)
