-- The men of a position on the squares that its stand or its frame tells.
use Rattle.std.proofs.Common.{arith, ◌≡◌, ℕ, Bool, false, sym, subst, ◌↔◌}
use Rattle.egt_index.specs.Prelude.{Side, men_of, IsFree, Setup, AreCounted, HasStand, IsOff, list_of, Stand}
use Rattle.egt_index.proofs.After.{all_there}
use Rattle.egt_index.proofs.Setups.{free_of, off_of}
use Rattle.egt_index.proofs.ImageCodes.{counted_of}

module _ (c : ℕ) (stand : Stand) (side : Side) (targeted : Bool) (p : Setup) (has : HasStand c false stand side targeted p) where
  -- no others stand there
  pub men_are : p.men ≡ men_of (list_of stand)
  men_are = (all_there p.men (list_of stand) has.admissible.on_board (subst (AreCounted p.men) (sym has.stood.are) (counted_of c p has.is_of)) has.stood.all).0

  pub free_off : (t : ℕ) → IsFree p.men t ↔ IsOff (list_of stand) t
  free_off t = grind (arith, off_of, men_are, free_of)
