-- A position without a target is told by its men.
use Rattle.std.proofs.Common.{arith, ◌≡◌, ℕ, None, Option, IfSome, false, Bool, refl, sym, inl, subst}
use Rattle.egt_index.specs.Prelude.{option_map, is_some, Man, Side, ahead, HasPawnBeside, other_side, IsSettled}
use Rattle.egt_index.specs.Prelude.{SettlesTo, Setup, IsAdmissible, IsOf, AreNonKings, Facts, Entry, HasStand, Stood}
use Rattle.egt_index.specs.Prelude.{list_of, Stand}
use Rattle.egt_index.proofs.ImageCodes.{settled_stand}

-- without a target nothing is to be settled
pub no_target : (p : Setup) → p.target ≡ None → IsSettled p
no_target p none = subst (λ (o : Option ℕ). IfSome o (λ t. HasPawnBeside p.men p.side (ahead (other_side p.side) t))) (sym none) tt

pub settles_to_itself : (p : Setup) → p.target ≡ None → SettlesTo p p
settles_to_itself p none = inl (no_target p none, refl)

-- the men found are those beside the kings
pub found_beside : (p : Setup) (one other : Entry) (first second : Option Man) → first ≡ option_map (λ e. e.0) one → second ≡ option_map (λ e. e.0) other
    → AreNonKings p (option_map (λ e. e.0) one) (option_map (λ e. e.0) other) → AreNonKings p first second
found_beside p one other first second first_is second_is is = grind arith

-- they stand as in the class
pub stand_of_men : Facts → (c : ℕ) (flipped told : Bool) (p : Setup) (stand : Stand) (side : Side) → told ≡ flipped → IsAdmissible p → IsOf c flipped p → Stood c flipped p.men (list_of stand) → p.side ≡ side → p.target ≡ None
    → HasStand c told stand side false p
stand_of_men facts c flipped told p stand side told_is ok is_of stood side_is none = grind (arith, settled_stand, is_some, settles_to_itself)
