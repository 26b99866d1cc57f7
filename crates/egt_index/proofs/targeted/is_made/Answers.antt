use Rattle.std.proofs.Common.{◌≡◌, IfSome, arith, ◌∙◌, ap, sym, refl, subst}
use Rattle.egt_index.specs.Prelude.{false≢true, men_of, setup_of, PawnsFit, IsFree, Placement, IsAdmissible, IsKingOn}
use Rattle.egt_index.specs.Prelude.{IsSettled, Black, White, list_of}
use Rattle.std.specs.FinMap as map
use Rattle.egt_index.proofs.Prefixes.{few_with}
use Rattle.egt_index.proofs.TargetsMade.{at_digit, board_made, kings_there, made_off, made_setup, off_free, pawns_fit, pawns_there, setup_made}
use Rattle.egt_index.proofs.Setups.{on_board_of}
use Rattle.egt_index.proofs.targeted.is_made.Goals.{After-with_entry-board}
use Rattle.egt_index.proofs.targeted.is_made.Goals as goal

pub returns-then-not-is_last_off : goal.returns-then-not-is_last_off
returns-then-not-is_last_off c = (
  λ h. absurd (false≢true h),
  λ made. absurd (false≢true (sym c.if-not-is_last_off.true ∙ c.is_last_off.ensures.1 (made_off c.args.class c.args.prefix.now c.args.man c.args.mover c.args.digit c.with_last-stand.result (at_digit _ _ _ _ _ _ (omega (arith, c.number-number.ensures.below, c.number-number.ensures.value)) c.requires.targets c.requires.before c.requires.digit c.with_last-stand.ensures c.at.ensures) made))),
)

pub target_of-target-requires : goal.target_of-target-requires
target_of-target-requires c = λ e. pawns_there c.args.class c.args.prefix.now c.args.man c.args.mover c.args.digit c.with_last-stand.result (at_digit _ _ _ _ _ _ (omega (arith, c.number-number.ensures.below, c.number-number.ensures.value)) c.requires.targets c.requires.before c.requires.digit c.with_last-stand.ensures c.at.ensures)

pub with_entry-board-requires-clause-free : goal.with_entry-board-requires-clause-free
with_entry-board-requires-clause-free c =
    subst (λ (men : Placement). IfSome c.with_last-stand.result.last (λ e. IsFree men e.1)) (sym c.copied.ensures)
    (off_free c.args.class c.args.prefix.now c.args.man c.args.mover c.args.digit c.with_last-stand.result (at_digit _ _ _ _ _ _ (omega (arith, c.number-number.ensures.below, c.number-number.ensures.value)) c.requires.targets c.requires.before c.requires.digit c.with_last-stand.ensures c.at.ensures) (c.is_last_off.ensures.0 c.if-not-is_last_off.false))

-- the board has these men
board : (c : After-with_entry-board) → c.with_entry-board.result ≡ men_of (list_of c.with_last-stand.result)
board c = board_made c.args.class c.args.prefix.now c.args.man c.args.mover c.args.digit c.with_last-stand.result (at_digit _ _ _ _ _ _ (omega (arith, c.number-number.ensures.below, c.number-number.ensures.value)) c.requires.targets c.requires.before c.requires.digit c.with_last-stand.ensures c.at.ensures) _ _ c.copied.ensures c.with_entry-board.ensures (c.is_last_off.ensures.0 c.if-not-is_last_off.false)

pub admitted-requires-clause-few : goal.admitted-requires-clause-few
admitted-requires-clause-few c = let is = ap map.len (board c) in let few = few_with c.with_last-stand.result in omega arith

pub admitted-requires-clause-pawns : goal.admitted-requires-clause-pawns
admitted-requires-clause-pawns c = subst PawnsFit (sym (board c)) (pawns_fit c.args.class c.args.prefix.now c.args.man c.args.mover c.args.digit c.with_last-stand.result (at_digit _ _ _ _ _ _ (omega (arith, c.number-number.ensures.below, c.number-number.ensures.value)) c.requires.targets c.requires.before c.requires.digit c.with_last-stand.ensures c.at.ensures))

pub admitted-requires-clause-white : goal.admitted-requires-clause-white
admitted-requires-clause-white c =
    subst (λ (men : Placement). IsKingOn men White c.with_last-stand.result.white) (sym (board c))
    (kings_there c.args.class c.args.prefix.now c.args.man c.args.mover c.args.digit c.with_last-stand.result (at_digit _ _ _ _ _ _ (omega (arith, c.number-number.ensures.below, c.number-number.ensures.value)) c.requires.targets c.requires.before c.requires.digit c.with_last-stand.ensures c.at.ensures) (c.is_last_off.ensures.0 c.if-not-is_last_off.false)).white

pub admitted-requires-clause-black : goal.admitted-requires-clause-black
admitted-requires-clause-black c =
    subst (λ (men : Placement). IsKingOn men Black c.with_last-stand.result.black) (sym (board c))
    (kings_there c.args.class c.args.prefix.now c.args.man c.args.mover c.args.digit c.with_last-stand.result (at_digit _ _ _ _ _ _ (omega (arith, c.number-number.ensures.below, c.number-number.ensures.value)) c.requires.targets c.requires.before c.requires.digit c.with_last-stand.ensures c.at.ensures) (c.is_last_off.ensures.0 c.if-not-is_last_off.false)).black

pub returns-in-Some : goal.returns-in-Some
returns-in-Some c =
    let off = (c.is_last_off.ensures.0 c.if-not-is_last_off.false) in
    let at = (at_digit _ _ _ _ _ _ (omega (arith, c.number-number.ensures.below, c.number-number.ensures.value)) c.requires.targets c.requires.before c.requires.digit c.with_last-stand.ensures c.at.ensures) in
    let is : c.in-Some.position ≡ setup_of (list_of c.with_last-stand.result) c.args.mover c.target_of-target.result = on_board_of (list_of c.with_last-stand.result) c.args.mover c.target_of-target.result c.with_entry-board.result c.in-Some.position
    (board_made c.args.class c.args.prefix.now c.args.man c.args.mover c.args.digit c.with_last-stand.result at _ _ c.copied.ensures c.with_entry-board.ensures off) c.in-Some.ensures.setup in (
      λ settled. setup_made c.args.class c.args.prefix.now c.args.man c.args.mover c.args.digit c.with_last-stand.result at c.in-Some.position c.target_of-target.result c.target_of-target.ensures off is
          (subst IsAdmissible (sym c.in-Some.ensures.setup) (c.in-Some.ensures.admits.0 refl)) (c.is_settled.ensures.0 settled),
      λ made. c.is_settled.ensures.1 (subst IsSettled (made_setup c.args.class c.args.prefix.now c.args.man c.args.mover c.args.digit c.with_last-stand.result at c.target_of-target.result c.target_of-target.ensures made ∙ sym is) made.has.settled),
    )

pub returns-in-None : goal.returns-in-None
returns-in-None c = (
  λ h. absurd (false≢true h),
  λ made.
      let off = (c.is_last_off.ensures.0 c.if-not-is_last_off.false) in
      let at = (at_digit _ _ _ _ _ _ (omega (arith, c.number-number.ensures.below, c.number-number.ensures.value)) c.requires.targets c.requires.before c.requires.digit c.with_last-stand.ensures c.at.ensures) in
      absurd (false≢true (c.in-None.ensures.admits.1
      (subst (λ (men : Placement). IsAdmissible (record { men = men; side = c.args.mover; target = c.target_of-target.result }))
      (sym (board_made c.args.class c.args.prefix.now c.args.man c.args.mover c.args.digit c.with_last-stand.result at _ _ c.copied.ensures c.with_entry-board.ensures off))
      (subst IsAdmissible (made_setup c.args.class c.args.prefix.now c.args.man c.args.mover c.args.digit c.with_last-stand.result at c.target_of-target.result c.target_of-target.ensures made) made.has.admissible)))),
)
