-- Admissible setups, and the reason of each refusal.
use Rattle.std.proofs.Common.{true, false, ◌≡◌, ℕ, Option, Some, None, sym, subst, ◌⊎◌, arith}
use Rattle.egt_board.specs.Prelude.{is_some, Side, White, Black, other_side, Placement, IsKingOn, IsTarget, FitsTarget}

-- the king that waits, chosen by the side to move
pub waiting_king : (men : Placement) (side : Side) (white black s : ℕ) → IsKingOn men White white → IsKingOn men Black black → ((side ≡ White) × (s ≡ black)) ⊎ ((side ≡ Black) × (s ≡ white)) → IsKingOn men (other_side side) s
waiting_king men side white black s w b chosen = grind arith

-- a target that fits, and none
pub fits_some : (men : Placement) (mover : Side) (target : Option ℕ) (t : ℕ) → target ≡ Some t → IsTarget men mover t → FitsTarget men mover target
fits_some men mover target t is fits = subst (FitsTarget men mover) (sym is) fits

pub fits_none : (men : Placement) (mover : Side) (target : Option ℕ) → target ≡ None → FitsTarget men mover target
fits_none men mover target is = subst (FitsTarget men mover) (sym is) tt

pub none_of : {A : Type 0} (o : Option A) → is_some o ≡ false → o ≡ None
none_of o e = grind arith

pub some_of : {A : Type 0} (o : Option A) → is_some o ≡ true → (x : A) × (o ≡ Some x)
some_of o e = grind arith
