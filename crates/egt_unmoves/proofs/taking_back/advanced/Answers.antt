use Rattle.std.proofs.Common.{sym, ◌∙◌}
use Rattle.egt_unmoves.specs.Prelude.{false≢true, IsFree}
use Rattle.egt_unmoves.proofs.Went.{advances_anyhow, same_target}
use Rattle.egt_unmoves.proofs.taking_back.advanced.Goals as goal

pub returns-then-not-may_have_pawn : goal.returns-then-not-may_have_pawn
returns-then-not-may_have_pawn c = (
  λ never. absurd (false≢true never),
  λ h. absurd (false≢true (sym c.if-not-may_have_pawn.true ∙ (c.may_have_pawn.ensures c.args.man c.requires.pawn).1 h.0)),
)

pub target_left-requires-clause-advances : goal.target_left-requires-clause-advances
target_left-requires-clause-advances c =
    advances_anyhow (IsFree c.args.board.now) c.args.man.side c.args.from c.args.to ((c.advances.ensures.advances c.args.to).0 (c.contains.ensures.0 c.if-not-contains.false))

pub returns : goal.returns
returns c =
    let same = same_target _ c.args.position.now c.target_left.result c.target_left.ensures in (
      λ one. (
        (c.may_have_pawn.ensures c.args.man c.requires.pawn).0 c.if-not-may_have_pawn.false,
        (c.advances.ensures.advances c.args.to).0 (c.contains.ensures.0 c.if-not-contains.false),
        same.0 (c.is_same.ensures.0 one ∙ c.target.ensures),
      ),
      λ h. c.is_same.ensures.1 (same.1 h.2 ∙ sym c.target.ensures),
    )
