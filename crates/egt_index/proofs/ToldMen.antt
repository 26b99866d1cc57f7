-- A code that tells some men spells exactly the positions with these men.
use Rattle.std.proofs.Common.{◌≡◌, ℕ, ◌+◌, ◌-◌, Bool, true, false, List, Option, Some, None, arith, sym, ap, ◌∙◌, subst}
use Rattle.egt_index.specs.Prelude.{is_some, false≢true, FitsBoard, men_of, setup_of, ahead, pawn_of, Placement, Stands}
use Rattle.egt_index.specs.Prelude.{IsSettled, Setup, FitsTarget, IsTarget, Man, Side, White, Black, Spells, HasPawns}
use Rattle.egt_index.specs.Prelude.{IsTold, TellsMen, HasStand, list_of, Stand}
use Rattle.egt_index.proofs.After.{all_apart}
use Rattle.egt_index.proofs.AtIndex.{target_exists}
use Rattle.egt_index.proofs.Decoded.{has_pawns_list, spelled_setup}
use Rattle.egt_index.proofs.FrameMen.{men_are}
use Rattle.egt_index.proofs.NumbersOfCodes.{of_targets}
use Rattle.egt_index.proofs.Listing.{listed}
use Rattle.egt_index.proofs.Setups.{fits_apart, setup_spelled, stand_spelled}

-- a position without a target is settled
pub untargeted_settled : (q : Setup) → q.target ≡ None → IsSettled q
untargeted_settled q none = grind (arith, ahead)

-- where a target is told of there is a pawn each
pub pawns_told : (targeted : Bool) (c code : ℕ) (stand : Stand) (side : Side) → TellsMen targeted c code stand side → targeted ≡ true → HasPawns (list_of stand)
pawns_told targeted c code stand side tells e =
    of_targets c (λ none. absurd (false≢true (sym (tells.ends.never none) ∙ e))) (λ has. has_pawns_list c tells.number (list_of stand) has tells.men)

pub no_target : (o : Option ℕ) → is_some o ≡ false → o ≡ None
no_target o is = grind arith

-- the setup of these men, that side to move and the target that the code tells of
record IsSetup (targeted : Bool) (stand : Stand) (side : Side) (p : Setup) : Type 0 where
  target : Option ℕ
  told : IsTold targeted side (list_of stand) target
  fits : FitsBoard (list_of stand)
  is : p ≡ setup_of (list_of stand) side target

-- what a code spells is the setup of the men that it tells
told_setup : (targeted : Bool) (c code : ℕ) (p : Setup) (stand : Stand) (side : Side) → Spells c code p → TellsMen targeted c code stand side → IsSetup targeted stand side p
told_setup targeted c code p stand side spells tells =
    let target = target_exists targeted side (list_of stand) (pawns_told targeted c code stand side tells) in
    let found = spelled_setup c code tells.number side targeted (list_of stand) target.0 p tells.ends tells.men target.1 spells in
    record { target = target.0; told = target.1; fits = found.0; is = found.1 }

-- and has them
pub told_stands : (targeted : Bool) (c code : ℕ) (p : Setup) (stand : Stand) (side : Side) → Spells c code p → IsSettled p → TellsMen targeted c code stand side → HasStand c false stand side targeted p
told_stands targeted c code p stand side spells settled tells =
    let found = told_setup targeted c code p stand side spells tells in
    subst (HasStand c false stand side targeted) (sym found.is)
    (stand_spelled c code tells.number stand side targeted found.target tells.men (fits_apart (list_of stand) found.fits) found.told (subst (Spells c code) found.is spells) (subst IsSettled found.is settled))

pub untargeted_stands : (c code : ℕ) (p : Setup) (stand : Stand) (side : Side) → Spells c code p → TellsMen false c code stand side → HasStand c false stand side false p
untargeted_stands c code p stand side spells tells =
    let found = told_setup false c code p stand side spells tells in
    told_stands false c code p stand side spells (untargeted_settled p (ap (λ (q : Setup). q.target) found.is ∙ found.told)) tells

-- the target of a position is what the digits tell of
target_listed : (side : Side) (men : Placement) (list : List (Man × ℕ)) (t : ℕ) → men ≡ men_of list → IsTarget men side t → IsTold true side list (Some t)
target_listed White men list t is target = let rank = target.rank in (t - 8, listed list (pawn_of Black) (t - 8) (subst (λ (m : Placement). Stands m (t - 8) (pawn_of Black)) is target.advanced), (omega arith))
target_listed Black men list t is target = (t + 8, listed list (pawn_of White) (t + 8) (subst (λ (m : Placement). Stands m (t + 8) (pawn_of White)) is target.advanced), (omega arith))

target_told : (targeted : Bool) (side : Side) (men : Placement) (list : List (Man × ℕ)) (target : Option ℕ) → men ≡ men_of list → FitsTarget men side target → is_some target ≡ targeted → IsTold targeted side list target
target_told targeted side men list target is fits none = grind (arith, no_target, target_listed)

-- and a position with these men is what it spells
pub stands_told : (targeted : Bool) (c code : ℕ) (p : Setup) (stand : Stand) (side : Side) → HasStand c false stand side targeted p → TellsMen targeted c code stand side → Spells c code p
stands_told targeted c code p stand side has tells =
    setup_spelled c code tells.number side targeted (list_of stand) p.target p tells.ends tells.men told (all_apart false p.men (list_of stand) has.stood.all) same has.admissible
  where
    men : p.men ≡ men_of (list_of stand)
    men = men_are c stand side targeted p has

    told : IsTold targeted side (list_of stand) p.target
    told = target_told targeted side p.men (list_of stand) p.target men (subst (λ (s : Side). FitsTarget p.men s p.target) has.side_is has.admissible.target) has.target_is

    same : p ≡ setup_of (list_of stand) side p.target
    same =
        ap (λ (men : Placement). record { men = men; side = p.side; target = p.target }) men
        ∙ ap (λ (s : Side). record { men = men_of (list_of stand); side = s; target = p.target }) has.side_is
