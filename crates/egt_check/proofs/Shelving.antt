-- The places of a library.
use Rattle.std.proofs.Common.{◌≡◌, ◌≢◌, ◌↔◌, ℕ, ◌+◌, ◌-◌, length-append, ◌<◌, ◌⊎◌, inl, inr, true, false, eqb}
use Rattle.std.proofs.Common.{List, [], ◌∷◌, ◌++◌, length, get_or, set, Option, Some, None, refl, sym, ap, subst, ◌∙◌}
use Rattle.std.proofs.Common.{arith, IsSome, IfSome}
use Rattle.egt_check.specs.Prelude.{Contains, cases_lt, ne_eqb, false≢true, get_or-set_other, get_or-set_same}
use Rattle.egt_check.specs.Prelude.{length-set, get_or_append_left, get_or-append_right, eqb_tells, children_of}
use Rattle.egt_check.specs.Prelude.{TableValue, IsTable, Reject, Missing, NoReach, Rejected, AlreadyThere, IsLibrary}
use Rattle.egt_check.specs.Prelude.{IsRefused, IsShelved, IsTurnedAway, ReachesDown, Tables, table_at, beside}
use Rattle.egt_check.specs.Prelude.{HasChildren, IsAccepted, IsTrueTable, HasTrueChildren, KeepsRules}
use Rattle.egt_check.proofs.TableFound.{lower, beside_own, beside_other}

abbrev pub Places : Type 0
Places = List (Option TableValue)

-- no place has a table
abbrev pub AreFree : Places → Type 0
AreFree places = (c : ℕ) → table_at places c ≡ None

-- so they are a library
pub free_library : (places : Places) → length places ≡ 36 → AreFree places → IsLibrary places
free_library places count free = record { one_a_class = count; shelved = λ c below. subst (λ o. IfSome o (IsShelved (table_at places) c)) (sym (free c)) tt }

-- a table more in its place is a table more beside the others
pub set_beside : (places : Places) (t : TableValue) → t.class < length places → (c : ℕ) → table_at (set places t.class (Some t)) c ≡ beside (table_at places) t c
set_beside places t inside c = elim (eqb_tells c t.class) [
  | inl own ↦
      let here : get_or (set places t.class (Some t)) t.class None ≡ Some t = get_or-set_same places t.class (Some t) None inside in
      subst (λ k. get_or (set places t.class (Some t)) k None ≡ Some t) (sym own.1) here ∙ sym (beside_own (table_at places) t c own.1)
  | inr other ↦ get_or-set_other places t.class c (Some t) None other.1 ∙ sym (beside_other (table_at places) t c other.0)
]

-- a shelf stays one where no table changes
shelved_there : (tables more : Tables) (c : ℕ) (t : TableValue) → ((d : ℕ) → IsSome (tables d) → more d ≡ tables d) → IsShelved tables c t → IsShelved more c t
shelved_there tables more c t stays h = grind (arith, children_of)

if_shelved_there : (tables more : Tables) (c : ℕ) (o : Option TableValue) → ((d : ℕ) → IsSome (tables d) → more d ≡ tables d) → IfSome o (IsShelved tables c) → IfSome o (IsShelved more c)
if_shelved_there tables more c o stays h = grind (arith, shelved_there)

apart : (c d : ℕ) → d < c → eqb d c ≡ false
apart c d less = ne_eqb d c (λ e. omega arith)

-- the children of an accepted table are true
true_child : (places : Places) (d : ℕ) (o : Option TableValue) → table_at places d ≡ o → IsSome o → IfSome o (IsShelved (table_at places) d) → (u : TableValue) × (table_at places d ≡ Some u) × (u.class ≡ d) × IsTrueTable u
true_child places d o e there shelved = grind (arith, false≢true)

module _ (lower_child : (c d : ℕ) → c < 36 → Contains (children_of c) d → d < c) (places : Places) (library : IsLibrary places) (t : TableValue) (table : IsTable t) where
  true_children : HasChildren (table_at places) t.class → HasTrueChildren (beside (table_at places) t) t.class
  true_children children d child =
      let less = lower_child t.class d table.class_in child in
      let u = true_child places d (table_at places d) refl (children d child) (library.shelved d (lower t.class d table.class_in less)) in
      let other : beside (table_at places) t d ≡ table_at places d = beside_other (table_at places) t d (apart t.class d less) in
      (u.0, other ∙ u.1, u.2, u.3)

  -- the children of an accepted table have the column of the nearest mates where it has
  down_beside : ReachesDown (table_at places) t → ReachesDown (beside (table_at places) t) t
  down_beside down there d child = grind (arith, beside, table_at, beside_other)

  -- an accepted table is true
  pub accepted_is_true : ((tables : Tables) (u : TableValue) → IsTable u → tables u.class ≡ Some u → HasTrueChildren tables u.class → ReachesDown tables u → KeepsRules tables u ↔ IsTrueTable u) → IsAccepted (table_at places) t → IsTrueTable t
  accepted_is_true kept accepted = (kept (beside (table_at places) t) t table (beside_own (table_at places) t t.class refl) (true_children accepted.children) (down_beside accepted.reach_children)).0 accepted.rules

  abbrev more : Tables
  more = table_at (set places t.class (Some t))

  -- with a true table more, whose children are there, it is a library again
  pub one_more : table_at places t.class ≡ None → IsTrueTable t → HasChildren (table_at places) t.class → ReachesDown (table_at places) t → IsLibrary (set places t.class (Some t))
  one_more free holds children down = record { one_a_class = length-set places t.class (Some t) ∙ library.one_a_class; shelved = shelved }
    where
      inside : t.class < length places
      inside = subst (λ n. t.class < n) (sym library.one_a_class) table.class_in

      stays : (d : ℕ) → IsSome (table_at places d) → more d ≡ table_at places d
      stays d there = elim (eqb_tells d t.class) [
        | inl own ↦ absurd (false≢true (subst IsSome (ap (table_at places) own.1 ∙ free) there))
        | inr other ↦ set_beside places t inside d ∙ beside_other (table_at places) t d other.0
      ]

      own : (c : ℕ) → c ≡ t.class → IsShelved more c t
      own c e = record {
        class = sym e;
        table = table;
        true = holds;
        children = subst (HasChildren more) (sym e) (λ d child. let there = children d child in subst IsSome (sym (stays d there)) there);
        down = λ has d child. subst (λ o. IfSome o (λ u. IsSome u.reach)) (sym (stays d (children d child))) (down has d child);
      }

      shelved : (c : ℕ) → c < 36 → IfSome (more c) (IsShelved more c)
      shelved c below = subst (λ o. IfSome o (IsShelved more c)) (sym (set_beside places t inside c)) (by (eqb_tells c t.class))
        where
          by : ((eqb c t.class ≡ true) × (c ≡ t.class)) ⊎ ((eqb c t.class ≡ false) × (c ≢ t.class)) → IfSome (beside (table_at places) t c) (IsShelved more c)
          by (inl here) = subst (λ o. IfSome o (IsShelved more c)) (sym (beside_own (table_at places) t c here.1)) (own c here.1)
          by (inr other) =
              subst (λ o. IfSome o (IsShelved more c)) (sym (beside_other (table_at places) t c other.0))
              (if_shelved_there (table_at places) more c (table_at places c) stays (library.shelved c below))

-- a refused table is turned away where its class has none
pub turned_away : (tables : Tables) (t : TableValue) (reject : Reject) → tables t.class ≡ None → IsRefused tables t reject → IsTurnedAway tables t reject
turned_away tables t (Missing d) free refused = (free, refused)
turned_away tables t (NoReach d) free refused = (free, refused)
turned_away tables t (Rejected column i rule) free refused = (free, refused)
turned_away tables t AlreadyThere free refused = absurd refused

-- all places are free so far
pub record AreFreeSoFar (places : Places) (n : ℕ) : Type 0 where
  pub count : length places ≡ n
  pub free : AreFree places

pub no_places : (places : Places) → places ≡ [] → AreFreeSoFar places 0
no_places places e = record { count = ap length e; free = λ c. ap (λ xs. get_or xs c None) e }

abbrev one_free : Places
one_free = None ∷ []

one_is_free : AreFree one_free
one_is_free h = grind arith

pub free_more : (places longer : Places) (n : ℕ) → AreFreeSoFar places n → longer ≡ places ++ None ∷ [] → AreFreeSoFar longer (n + 1)
free_more places longer n so_far e = grind (arith, length-append, cases_lt, get_or_append_left, get_or-append_right, one_is_free)
