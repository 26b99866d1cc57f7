use Rattle.std.proofs.lemmas.Nat.Bits.{bit_at-lt}
use Rattle.egt_moves.proofs.SafeGoals.{king_goal}
use Rattle.egt_moves.proofs.targets.king_goals.Goals as goal

pub returns-clause-safe : goal.returns-clause-safe
returns-clause-safe c = λ t.
    king_goal c.args.position.now c.args.man c.args.from t _ _ _ c.attacks_pass_over_no_occupant.ensures c.danger.ensures.admissible c.requires.stands c.requires.mine c.requires.king
    (bit_at-lt c.args.goals.bits t) (bit_at-lt c.danger.result.bits t) (c.difference.ensures.squares t) (c.requires.goes t) (c.danger.ensures.attacked t)
