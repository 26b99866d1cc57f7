use Rattle.std.proofs.Common.{refl, inl, inr}
use Rattle.egt_check.specs.Prelude.{stale_unless_mated}
use Rattle.egt_check.proofs.judging.entry_at_end.Goals as goal

pub returns-in-Checkmate : goal.returns-in-Checkmate
returns-in-Checkmate c = inl (c.in-Checkmate.ensures, refl)

pub returns-in_default : goal.returns-in_default
returns-in_default c = inr (stale_unless_mated c.args.position.now c.standing.result c.standing.ensures c.in_default.not-Checkmate c.requires, refl)
