-- In which table the entry of a position is found.
use Rattle.std.proofs.Common.{◌≡◌, ℕ, ◌<◌, ◌⊎◌, inl, inr, Bool, false, eqb, Option, Some, refl, sym, subst, ◌∙◌}
use Rattle.std.proofs.Common.{arith, IsSome, IfSome}
use Rattle.egt_check.specs.Prelude.{option_map, Contains, eq-eqb, eqb_tells, Setup, IsAdmissible, children_of, IsOf}
use Rattle.egt_check.specs.Prelude.{size_of, Move, Leads, TableValue, Facts, IsPlaceOf, HasReachAt, IsInClass, Tables}
use Rattle.egt_check.specs.Prelude.{beside, HasChildren, HasReachChildren, Place}

pub beside_own : (tables : Tables) (t : TableValue) (c : ℕ) → c ≡ t.class → beside tables t c ≡ Some t
beside_own tables t c own = rw (eq-eqb c t.class own)

pub beside_other : (tables : Tables) (t : TableValue) (c : ℕ) → eqb c t.class ≡ false → beside tables t c ≡ tables c
beside_other tables t c other = rw other

-- what is there stays there beside one more
pub beside_some : (tables : Tables) (t : TableValue) (c : ℕ) → IsSome (tables c) → IsSome (beside tables t c)
beside_some tables t c there = grind (arith, eqb_tells, beside_own, beside_other)

pub some_before : {A B : Type 0} (f : A → B) (o : Option A) (x : Option B) → option_map f o ≡ x → IsSome x → IsSome o
some_before f o x e there = grind arith

-- what comes before a class is one
pub lower : (c d : ℕ) → c < 36 → d < c → d < 36
lower c d below less = omega arith

-- what is so of a class and of its children is so of the class of each position after a step
pub after_step : (facts : Facts) (Has : ℕ → Type 0) (c : ℕ) (p q : Setup) (m : Move) → c < 36 → IsAdmissible p → IsInClass c p → Leads p m q
    → Has c → ((d : ℕ) → Contains (children_of c) d → Has d) → (place : Place) → IsPlaceOf place q → Has place.class
after_step facts Has c p q m below ok own leads here children place at = by (facts.step_class p q m c own.0 below ok own.1 leads)
  where
    same : (d : ℕ) (turned : Bool) → d < 36 → IsOf d turned q → d ≡ place.class
    same d turned inside of = facts.one_class q d place.class turned at.flipped inside at.below of at.of

    by : IsOf c own.0 q ⊎ ((d : ℕ) × (turned : Bool) × Contains (children_of c) d × IsOf d turned q) → Has place.class
    by (inl of) = subst Has (same c own.0 below of) here
    by (inr child) =
        subst Has (same child.0 child.1 (lower c child.0 below (facts.child_below c child.0 below child.2)) child.3) (children child.0 child.2)

reach_of : (o : Option TableValue) → IsSome o → IfSome o (λ u. IsSome u.reach) → (u : TableValue) × (o ≡ Some u) × IsSome u.reach
reach_of o there has = grind arith

-- the class of the table and those of its children have tables, with the column of the nearest mates where the table has it
module _ (tables : Tables) (t : TableValue) where
  pub own_some : IsSome (beside tables t t.class)
  own_some = subst IsSome (sym (beside_own tables t t.class refl)) refl

  pub own_reach : IsSome t.reach → HasReachAt (beside tables t) t.class
  own_reach there = (t, beside_own tables t t.class refl, there)

  pub child_reach : HasChildren tables t.class → HasReachChildren tables t.class → (d : ℕ) → Contains (children_of t.class) d → IsSome t.reach → HasReachAt (beside tables t) d
  child_reach children reach_children d child own = elim (eqb_tells d t.class) [
    | inl same ↦ (t, beside_own tables t d same.1, own)
    | inr other ↦ let found = reach_of (tables d) (children d child) (reach_children d child) in (found.0, beside_other tables t d other.0 ∙ found.1, found.2)
  ]

-- the position's index in a class has an entry
pub place_below : (facts : Facts) (p : Setup) (place : Place) → IsPlaceOf place p → place.index < size_of place.class
place_below facts p place at = facts.index_below p place.class place.index at.is_index
