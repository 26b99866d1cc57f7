use Rattle.std.proofs.Common.{◌≡◌, ◌<◌, ◌∙◌, Bool, Option, ℕ, arith, sym, subst}
use Rattle.egt_index.specs.Prelude.{FitsBoard, setup_of, Placement, Setup, IsAdmissible, IsKingOn, Side, White, Black}
use Rattle.egt_index.specs.Prelude.{Spells, IsTold, TellsMen, list_of, Stand}
use Rattle.egt_index.proofs.Decoded.{spelled_setup}
use Rattle.egt_index.proofs.Setups.{AreKings, fits_apart, kings_spelled, on_board_of}
use Rattle.egt_index.proofs.spelling.spelled_position.Goals as goal

-- what is spelled has these men, and the target that they tell of
setup : (targeted : Bool) (c code : ℕ) (p : Setup) (stand : Stand) (side : Side) (target : Option ℕ) → Spells c code p → TellsMen targeted c code stand side → IsTold targeted side (list_of stand) target → FitsBoard (list_of stand) × (p ≡ setup_of (list_of stand) side target)
setup targeted c code p stand side target spells tells told = spelled_setup c code tells.number side targeted (list_of stand) target p tells.ends tells.men told spells

kings : (targeted : Bool) (c code : ℕ) (p : Setup) (stand : Stand) (side : Side) (target : Option ℕ) → c < 36 → Spells c code p → TellsMen targeted c code stand side → IsTold targeted side (list_of stand) target → AreKings stand
kings targeted c code p stand side target c_in spells tells told = kings_spelled c tells.number stand c_in tells.men (fits_apart (list_of stand) (setup targeted c code p stand side target spells tells told).0)

pub board_of-board-requires : goal.board_of-board-requires
board_of-board-requires c = fits_apart (list_of c.spelled_stand-stand.result.0) (setup _ _ _ _ _ _ c.target_of-target.result c.requires.1 c.spelled_stand-stand.ensures.tells c.target_of-target.ensures).0

pub with_kings-requires-clause-admissible : goal.with_kings-requires-clause-admissible
with_kings-requires-clause-admissible c =
    subst (λ (men : Placement). IsAdmissible (record { men = men; side = c.spelled_stand-stand.result.1; target = c.target_of-target.result })) (sym c.board_of-board.ensures.men)
    (subst IsAdmissible (setup _ _ _ _ _ _ c.target_of-target.result c.requires.1 c.spelled_stand-stand.ensures.tells c.target_of-target.ensures).1 c.requires.1.admissible)

pub with_kings-requires-clause-white : goal.with_kings-requires-clause-white
with_kings-requires-clause-white c =
    subst (λ (men : Placement). IsKingOn men White c.spelled_stand-stand.result.0.white) (sym c.board_of-board.ensures.men)
    (kings _ _ _ _ _ _ c.target_of-target.result (omega (arith, c.number-number.ensures.below, c.number-number.ensures.value)) c.requires.1 c.spelled_stand-stand.ensures.tells c.target_of-target.ensures).white

pub with_kings-requires-clause-black : goal.with_kings-requires-clause-black
with_kings-requires-clause-black c =
    subst (λ (men : Placement). IsKingOn men Black c.spelled_stand-stand.result.0.black) (sym c.board_of-board.ensures.men)
    (kings _ _ _ _ _ _ c.target_of-target.result (omega (arith, c.number-number.ensures.below, c.number-number.ensures.value)) c.requires.1 c.spelled_stand-stand.ensures.tells c.target_of-target.ensures).black

pub returns : goal.returns
returns c =
    subst (Spells c.args.class c.args.code)
    ((setup _ _ _ _ _ _ c.target_of-target.result c.requires.1 c.spelled_stand-stand.ensures.tells c.target_of-target.ensures).1
    ∙ sym (on_board_of (list_of c.spelled_stand-stand.result.0) c.spelled_stand-stand.result.1 c.target_of-target.result c.board_of-board.result c.with_kings.result c.board_of-board.ensures.men c.with_kings.ensures))
    c.requires.1
