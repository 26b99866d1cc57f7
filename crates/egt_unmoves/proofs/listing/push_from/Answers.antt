use Rattle.std.proofs.Common.{◌≡◌, Some, None, arith, ap, sym, ◌∙◌, refl, inl, inr, subst}
use Rattle.egt_unmoves.specs.Prelude.{false≢true, other_side, ahead, HasPawnBeside, Placement, IsTarget, men_before}
use Rattle.egt_unmoves.specs.Prelude.{ListsBelow}
use Rattle.std.specs.FinMap as map
use Rattle.egt_unmoves.proofs.Pushing.{this_one, none_of, no_target, not_pushed, not_ready}
use Rattle.egt_unmoves.proofs.Quiet.{free_left}
use Rattle.egt_unmoves.proofs.Room.{few_left}
use Rattle.egt_unmoves.proofs.Went.{went_comes}
use Rattle.egt_unmoves.proofs.listing.push_from.Goals as goal

pub with_man-board-requires-clause-free : goal.with_man-board-requires-clause-free
with_man-board-requires-clause-free c = rw c.requires.left (free_left c.args.position.now.men c.args.to c.args.from c.requires.may.free)

pub with_man-board-requires-clause-room : goal.with_man-board-requires-clause-room
with_man-board-requires-clause-room c = grind (arith, few_left, c.requires.left, c.requires.may.stands, c.side-side.ensures.admissible.few)

pub returns-then-not-went-clause-listed : goal.returns-then-not-went-clause-listed
returns-then-not-went-clause-listed c =
    not_pushed c.args.position.now c.args.man c.args.from c.args.to c.args.list.now.items (omega arith) c.requires.may.stands
    (λ w. false≢true (sym c.if-not-went.true ∙ c.went.ensures.1 w)) c.requires.listed

pub push_before-requires-clause-comes : goal.push_before-requires-clause-comes
push_before-requires-clause-comes c =
    went_comes c.args.position.now c.args.man c.args.to c.args.from c.requires.may None c.side-side.ensures.admissible (c.went.ensures.0 c.if-not-went.false) tt tt

pub push_before-requires-then-is_settled_target-clause-comes : goal.push_before-requires-then-is_settled_target-clause-comes
push_before-requires-then-is_settled_target-clause-comes c =
    let q = c.args.position.now in
    let t = c.in-Some.passed in
    let men : c.with_man-board.result ≡ men_before q.men c.args.man c.args.to c.args.from = c.with_man-board.ensures ∙ ap (λ (l : Placement). map.insert l c.args.from c.args.man) c.requires.left in
    let ready : IsTarget c.with_man-board.result c.args.man.side t × HasPawnBeside c.with_man-board.result c.args.man.side (ahead (other_side c.args.man.side) t) = c.is_settled_target.ensures.0 c.if-is_settled_target.true in
    let here = subst (λ side. IsTarget (men_before q.men c.args.man c.args.to c.args.from) side t × HasPawnBeside (men_before q.men c.args.man c.args.to c.args.from) side (ahead (other_side side) t)) c.requires.may.theirs
    (subst (λ (x : Placement). IsTarget x c.args.man.side t × HasPawnBeside x c.args.man.side (ahead (other_side c.args.man.side) t)) men ready) in
    went_comes q c.args.man c.args.to c.args.from c.requires.may (Some t) c.side-side.ensures.admissible (c.went.ensures.0 c.if-not-went.false) here.0 here.1

pub push_before-requires-then-is_settled_target-clause-only : goal.push_before-requires-then-is_settled_target-clause-only
push_before-requires-then-is_settled_target-clause-only c = λ b comes one. this_one b.target c.args.target.now c.in-Some.passed (c.requires.target b _ comes) c.in-Some.is one

pub returns-else-is_settled_target-clause-listed : goal.returns-else-is_settled_target-clause-listed
returns-else-is_settled_target-clause-listed c =
    let q = c.args.position.now in
    let men : c.with_man-board.result ≡ men_before q.men c.args.man c.args.to c.args.from = c.with_man-board.ensures ∙ ap (λ (l : Placement). map.insert l c.args.from c.args.man) c.requires.left in
    no_target q c.args.man c.args.from c.args.to c.push_before.new.list.items (omega arith)
    (subst (λ k. ListsBelow q k c.push_before.new.list.items) (omega arith) c.push_before.ensures.listed)
    (λ b comes. elim (c.requires.target b _ comes) [
      | inl none ↦ none
      | inr here ↦ absurd (not_ready b q c.args.man c.args.from c.args.to c.in-Some.passed c.with_man-board.result c.args.man.side c.requires.may men refl
          (λ ready. false≢true (sym c.if-is_settled_target.false ∙ c.is_settled_target.ensures.1 ready)) comes (here ∙ c.in-Some.is))
    ])

pub returns-in_default-clause-listed : goal.returns-in_default-clause-listed
returns-in_default-clause-listed c =
    no_target c.args.position.now c.args.man c.args.from c.args.to c.push_before.new.list.items (omega arith)
    (subst (λ k. ListsBelow c.args.position.now k c.push_before.new.list.items) (omega arith) c.push_before.ensures.listed)
    (λ b comes. none_of b.target c.args.target.now (c.requires.target b _ comes) c.in_default.is)
