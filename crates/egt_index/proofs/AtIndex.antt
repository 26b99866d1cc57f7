-- The digits of a code, read one by one.
use Rattle.std.proofs.Common.{◌≡◌, ℕ, ◌<◌, Bool, List, true, false, Option, Some, None, IfSome, refl, sym, subst, inl}
use Rattle.std.proofs.Common.{inr}
use Rattle.egt_index.specs.Prelude.{Side, White, Black, Man, pawn_of, ahead, Setup, Material, Spells, Facts, IsIndex}
use Rattle.egt_index.specs.Prelude.{IsVoid, HasPawns, IsListed, IsTold, SpellsMen, list_of, Stand}
use Rattle.egt_index.proofs.IndexOrVoid.{index_or_void}

-- some position is spelled by a code that is not void, and has it as its index
pub indexed_by : Facts → (c code : ℕ) → c < 36 → ¬ IsVoid c code → (p : Setup) × Spells c code p × IsIndex c p code
indexed_by facts c code c_in some = elim (index_or_void facts c code c_in) [
  | inl found ↦ found
  | inr void ↦ absurd (some void)
]

-- the stand that is found
pub taken : (m : Material) (number : ℕ) (o : Option Stand) (stand : Stand) → IfSome o (λ s. SpellsMen m number (list_of s)) → o ≡ Some stand → SpellsMen m number (list_of stand)
taken m number o stand some is = subst (λ (o : Option Stand). IfSome o (λ s. SpellsMen m number (list_of s))) is some

-- where there are pawns, the square behind one of them is a target
pub target_exists : (targeted : Bool) (side : Side) (list : List (Man × ℕ)) → (targeted ≡ true → HasPawns list) → (target : Option ℕ) × IsTold targeted side list target
target_exists false side list pawns = (None, refl)
target_exists true side list pawns = of_side side
  where
    has : HasPawns list
    has = pawns refl

    of_side : (side : Side) → (target : Option ℕ) × IsTold true side list target
    of_side White = (Some (ahead White has.black), (has.black, subst (λ l. IsListed l (pawn_of Black) has.black) (sym has.list_is) (inr (inr (inr (inl (refl, refl))))), refl))
    of_side Black = (Some (ahead Black has.white), (has.white, subst (λ l. IsListed l (pawn_of White) has.white) (sym has.list_is) (inr (inr (inl (refl, refl)))), refl))
