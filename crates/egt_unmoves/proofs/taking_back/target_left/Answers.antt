use Rattle.std.proofs.Common.{◌≡◌, Some, rules, sym, ◌∙◌, subst}
use Rattle.egt_unmoves.specs.Prelude.{false≢true, HasPawnBeside, passed}
use Rattle.egt_unmoves.proofs.Went.{target_stays, target_goes}
use Rattle.egt_unmoves.proofs.taking_back.target_left.Goals as goal

pub returns-then-has_pawn_beside : goal.returns-then-has_pawn_beside
returns-then-has_pawn_beside c =
    let is : passed c.args.man c.args.from c.args.to ≡ Some c.in_ok-target.target = search rules in
    target_stays _ c.args.position.now c.args.man c.args.to c.args.from c.in_ok-target.target c.requires.pawn c.requires.theirs c.requires.advances is
    (subst (λ men. HasPawnBeside men c.args.position.now.side c.args.to) c.board.ensures (subst (λ side. HasPawnBeside c.board.result.now side c.args.to) c.side.ensures.side (c.has_pawn_beside.ensures.0 c.if-has_pawn_beside.true)))

pub returns-else-has_pawn_beside : goal.returns-else-has_pawn_beside
returns-else-has_pawn_beside c =
    let is : passed c.args.man c.args.from c.args.to ≡ Some c.in_ok-target.target = search rules in
    target_goes _ c.args.position.now c.args.man c.args.to c.args.from c.in_ok-target.target c.requires.pawn c.requires.theirs c.requires.advances is
    (λ ready. false≢true (sym c.if-has_pawn_beside.false ∙ c.has_pawn_beside.ensures.1
    (subst (λ men. HasPawnBeside men c.side.result c.args.to) (sym c.board.ensures) (subst (λ side. HasPawnBeside c.args.position.now.men side c.args.to) (sym c.side.ensures.side) ready))))
