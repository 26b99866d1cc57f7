-- Lists that a builder adds to.
use Rattle.std.proofs.Common.{◌≡◌, ℕ, ◌+◌, ◌-◌, ◌<◌, ◌≤◌, cond, eqb, List, [], ◌∷◌, ◌++◌, length, map, slice_index}
use Rattle.std.proofs.Common.{get_or, set, sym, ap, ap₂, ◌∙◌, inl, inr, arith}
use Rattle.std.specs.List.{slice_range}
use Rattle.std.proofs.lemmas.Bool.{cases_eq, eq-eqb, ne_eqb}
use Rattle.std.proofs.lemmas.List.{get_or_append_left, get_or_push, length-append, take-append-le, drop-append-le}
use Rattle.std.proofs.lemmas.List.{length-drop, take_all, drop_at, map-set, length-map, get_or-map, get_or-set_same}
use Rattle.std.proofs.lemmas.List.{get_or-set_other}
use Rattle.egt_graph.specs.Graph.{Graph}
use Rattle.egt_graph.specs.Batch.{IsTargets}

-- the same part of a longer list
part_kept : (xs ys : List ℕ) (i j : ℕ) → i ≤ j → j ≤ length xs → slice_range (xs ++ ys) i j ≡ slice_range xs i j
part_kept xs ys i j le within = grind (arith, length-drop, drop-append-le, take-append-le)

part_new : (xs ys : List ℕ) → slice_range (xs ++ ys) (length xs) (length (xs ++ ys)) ≡ ys
part_new xs ys = grind (arith, length-append, drop_at, take_all)

pub Targets_more : (g : Graph) (nodes targets starts more : List ℕ) (n : ℕ) → IsTargets g nodes targets starts n
    → length starts ≡ n + 1 → slice_index starts n ≡ length targets → more ≡ g.into (slice_index nodes n)
    → IsTargets g nodes (targets ++ more) (starts ++ length (targets ++ more) ∷ []) (n + 1)
Targets_more g nodes targets starts more n h long last is = grind (arith, get_or_append_left, get_or_push, length-append, cases_eq, slice_range, ap₂, part_new, part_kept)

-- one place of a list of lists, one element longer
pub pushed_at : {V : Type 0} (f : V → List ℕ) (vs : List V) (k : ℕ) (w v : V) (x : ℕ) → k < length vs → w ≡ get_or vs k w → f v ≡ f w ++ x ∷ []
    → (r : ℕ) → get_or (map f (set vs k v)) r [] ≡ cond (eqb r k) (get_or (map f vs) r [] ++ x ∷ []) (get_or (map f vs) r [])
pushed_at f vs k w v x lt read is r = elim (cases_eq r k) [
  | inl e ↦ rw (eq-eqb r k e) (rw e (
      let long : k < length (map f vs) = omega (arith, length-map vs f) in
      ap (λ l. get_or l k []) (map-set f vs k v) ∙ get_or-set_same (map f vs) k (f v) [] long ∙ is
      ∙ ap (λ l. l ++ x ∷ []) (ap f read ∙ sym (get_or-map f vs k w [] lt))))
  | inr ne ↦ rw (ne_eqb r k ne) (ap (λ l. get_or l r []) (map-set f vs k v) ∙ get_or-set_other (map f vs) k r (f v) [] ne)
]
