use Rattle.std.proofs.Common.{◌∙◌, IfNone, arith, sym, subst}
use Rattle.egt_index.specs.Prelude.{false≢true, FitsBoard, Placement, IsSettled, IsAdmissible, IsKingOn, Setup, White}
use Rattle.egt_index.specs.Prelude.{Black, material_of, Spells, list_of}
use Rattle.egt_index.proofs.Decoded.{has_pawns_list, list_spelled, no_men, spelled_setup}
use Rattle.egt_index.proofs.NumbersOfCodes.{of_targets}
use Rattle.egt_index.proofs.OnePosition.{spells_once}
use Rattle.egt_index.proofs.Setups.{AreKings, fits_apart, kings_spelled, on_board_of, pawns_spelled, setup_spelled}
use Rattle.egt_index.proofs.decoding.settled_position.Goals.{After-board_of-board, After-is_settled}
use Rattle.egt_index.proofs.decoding.settled_position.Goals as goal

-- no position has the digits
pub returns-in_err-stand-clause-none : goal.returns-in_err-stand-clause-none
returns-in_err-stand-clause-none c =
    subst (λ o. IfNone o ((p : Setup) → Spells c.args.class c.args.code p → IsSettled p → ⊥)) (sym c.from_residual.ensures)
    (λ p s _. no_men (material_of c.args.class) c.args.code c.ends-number.result.0 c.ends-number.result.1 c.ends-number.result.2 p c.ends-number.ensures c.in_err-stand.ensures.none s)

-- or two of its men stand on one square
pub returns-then-not-are_apart-clause-none : goal.returns-then-not-are_apart-clause-none
returns-then-not-are_apart-clause-none c = λ p s _.
    let list = list_of c.in_ok-stand.stand in
    let same = list_spelled c.args.class c.args.code c.ends-number.result.0 c.ends-number.result.1 c.ends-number.result.2 list p c.ends-number.ensures c.in_ok-stand.ensures.some s in
    false≢true (sym c.if-not-are_apart.true ∙ c.are_apart.ensures.1 (fits_apart list (subst FitsBoard (sym same) s.apart)))

pub target_of-target-requires : goal.target_of-target-requires
target_of-target-requires c = grind (arith, of_targets, false≢true, has_pawns_list, list_of, c.ends-number.ensures.never, c.in_ok-stand.ensures.some)

-- the kings stand on their squares
kings : (c : After-board_of-board) → AreKings c.in_ok-stand.stand
kings c = kings_spelled c.args.class c.ends-number.result.0 c.in_ok-stand.stand (omega (arith, c.number-number.ensures.below, c.number-number.ensures.value)) c.in_ok-stand.ensures.some (c.are_apart.ensures.0 c.if-not-are_apart.false)

pub admitted-requires-clause-pawns : goal.admitted-requires-clause-pawns
admitted-requires-clause-pawns c = grind (arith, pawns_spelled, list_of, c.board_of-board.ensures.men, c.in_ok-stand.ensures.some)

pub admitted-requires-clause-white : goal.admitted-requires-clause-white
admitted-requires-clause-white c = subst (λ (men : Placement). IsKingOn men White c.in_ok-stand.stand.white) (sym c.board_of-board.ensures.men) (kings c).white

pub admitted-requires-clause-black : goal.admitted-requires-clause-black
admitted-requires-clause-black c = subst (λ (men : Placement). IsKingOn men Black c.in_ok-stand.stand.black) (sym c.board_of-board.ensures.men) (kings c).black

-- the rules of play do not admit what the code would spell
pub returns-in_err-position-clause-none : goal.returns-in_err-position-clause-none
returns-in_err-position-clause-none c =
    subst (λ o. IfNone o ((p : Setup) → Spells c.args.class c.args.code p → IsSettled p → ⊥)) (sym c.from_residual-in_err-position.ensures)
    (λ p s _.
    let setup = spelled_setup c.args.class c.args.code c.ends-number.result.0 c.ends-number.result.1 c.ends-number.result.2 (list_of c.in_ok-stand.stand) c.target_of-target.result p c.ends-number.ensures c.in_ok-stand.ensures.some
    c.target_of-target.ensures s in
    false≢true (c.in_err-position.ensures.admits.1 (subst (λ (men : Placement). IsAdmissible (record { men = men; side = c.ends-number.result.1; target = c.target_of-target.result })) (sym c.board_of-board.ensures.men)
    (subst IsAdmissible setup.1 s.admissible))))

-- or it spells the position
spelled : (c : After-is_settled) → Spells c.args.class c.args.code c.in_ok-position.position
spelled c = grind (arith, setup_spelled, on_board_of)

pub returns-then-is_settled-clause-spells : goal.returns-then-is_settled-clause-spells
returns-then-is_settled-clause-spells c = spelled c.before

pub returns-else-is_settled-clause-none : goal.returns-else-is_settled-clause-none
returns-else-is_settled-clause-none c = λ p s settled.
    false≢true (sym c.if-is_settled.false ∙ c.is_settled.ensures.1 (subst IsSettled (spells_once c.args.class c.args.code p c.in_ok-position.position s (spelled c.before)) settled))
