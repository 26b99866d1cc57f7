-- By how many squares a pawn advances, and the index of a position that settles to another.
use Rattle.std.proofs.Common.{◌≡◌, ◌⊎◌, ℕ, ◌≤◌, ◌==◌, ◌&&◌, if◌then◌else◌, Bool, false, sym, subst, inl, inr, arith}
use Rattle.egt_steps.specs.Prelude.{eqb_tells, IsSettled, SettlesTo, Setup, IsIndex}

pub and_false : (a b : Bool) → b ≡ false → (a && b) ≡ false
and_false a b e = grind arith

pub one_off_home : (rank home n : ℕ) → n ≤ (if rank == home then 2 else 1) → (n ≤ 1) ⊎ ((n ≤ 2) × (rank ≡ home))
one_off_home rank home n few = grind (arith, eqb_tells)

-- a position has the index of the one to which it settles
pub settled_index : (c i : ℕ) (q r : Setup) → SettlesTo q r → IsSettled r → IsIndex c r i → IsIndex c q i
settled_index c i q r settles settled index = record {
  settled = index.settled;
  settles = subst (SettlesTo q) (sym same) settles;
  image = index.image;
  images = index.images;
  spells = index.spells;
  least = index.least;
}
  where
    same : index.settled ≡ r
    same = elim index.settles [
      | inl already ↦ already.1
      | inr unsettled ↦ absurd (unsettled.0 settled)
    ]
