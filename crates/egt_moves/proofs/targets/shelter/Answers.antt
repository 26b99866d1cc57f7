use Rattle.std.proofs.Common.{rules}
use Rattle.egt_moves.specs.Prelude.{bit_at_ones}
use Rattle.egt_moves.proofs.LoneKing.{lone_king_kept}
use Rattle.egt_moves.proofs.targets.shelter.Goals as goal

pub returns-clause-kept : goal.returns-clause-kept
returns-clause-kept c = λ t t_in.
    rw (← c.board.ensures, ← c.side.ensures.side, ← c.other-enemy.ensures)
    (c.shelter_without.ensures t c.args.man t_in (search rules))

pub returns-then-is_lone-clause-kept : goal.returns-then-is_lone-clause-kept
returns-then-is_lone-clause-kept c = λ t t_in. (
  λ _. lone_king_kept c.kings_attack_each_other.ensures c.args.position.now c.side.ensures.admissible c.args.occupancy c.requires.occupancy c.args.man c.args.from t c.args.king c.king.result
      c.requires.mine c.requires.home (rw (c.other-enemy.ensures, c.side.ensures.side) at c.king.ensures) (c.is_lone.ensures c.if-is_lone.true),
  λ _. bit_at_ones 64 t t_in,
)
