-- The functions of the graph tell what the relations say: positions, indexes, moves that go on.
use Rattle.std.proofs.Common.{◌≡◌, ℕ, ◌<◌, ◌≤◌, ◌↔◌, ◌&&◌, not, Bool, true, false, List, [], ◌∷◌, Option, Some, None}
use Rattle.std.proofs.Common.{refl, sym, ap, ◌∙◌, subst, inl, inr, arith}
use Rattle.egt_sweep.specs.Prelude.{⊎_elim, passing_below, passing_passes, first_is_least, decided_zeroes, connects_from}
use Rattle.egt_sweep.specs.Prelude.{false≢true, and_parts, tells, AreImages, SettlesTo, spelled_by, is_turned, is_number}
use Rattle.egt_sweep.specs.Prelude.{not-true, eqb-true, cases_lt, Contains, tells_so, SpellsBy, moves_of, has_index}
use Rattle.egt_sweep.specs.Prelude.{eq-eqb, IsTurn, Spells, IsVoid, Zeroes, played, Zeroing, spelled, kept_if, goes_on}
use Rattle.egt_sweep.specs.Prelude.{Any-from_list_any, list_any-from_Any, tells_where, decided_spelled, passing_is_below}
use Rattle.egt_sweep.specs.Prelude.{is_some, Decided, IsIndex, size_of, Connects, first_of, index_in, leads_on, connects}
use Rattle.egt_sweep.specs.Prelude.{settled_form, decided_turn, IsAdmissible, material_of, passing_has, position_at}
use Rattle.egt_sweep.specs.Prelude.{Setup, Laws, Leads, Move, Metric, Mate, IsAt, GoesOn}

module _ (laws : Laws) where
  -- ---- what a code spells

  spelled_told : (c code : ℕ) (p : Setup) (d : Decided ((q : Setup) × SpellsBy (material_of c) code q)) → spelled_by d ≡ Some p → Spells c code p
  spelled_told c code p (inl found) e = let same : found.0 ≡ p = (let x : Some found.0 ≡ Some p = e in cc) in subst (Spells c code) same found.1
  spelled_told c code p (inr none) e = absurd (let x : None ≡ Some p = e in cc)

  told_spelled : (c code : ℕ) (p : Setup) (d : Decided ((q : Setup) × SpellsBy (material_of c) code q)) → Spells c code p → spelled_by d ≡ Some p
  told_spelled c code p (inl found) s = ap Some (laws.one_spelled c code found.0 p found.1 s)
  told_spelled c code p (inr none) s = absurd (none (p, s))

  pub spelled_is : (c code : ℕ) (p : Setup) → (spelled c code ≡ Some p) ↔ Spells c code p
  unfolding spelled
  spelled_is c code p = (spelled_told c code p (decided_spelled (material_of c) code), told_spelled c code p (decided_spelled (material_of c) code))

  -- ---- the index of a position

  turned_told : (s : Setup) (o : Option Setup) → is_turned s o ≡ true → (x : Setup) × (o ≡ Some x) × IsTurn s x
  turned_told s None t = absurd (false≢true t)
  turned_told s (Some x) t = (x, refl, tells_so (decided_turn s x) t)

  told_turned : (s x : Setup) (o : Option Setup) → o ≡ Some x → IsTurn s x → is_turned s o ≡ true
  told_turned s x o e turn = subst (λ y. is_turned s y ≡ true) (sym e) (tells_where (decided_turn s x) turn)

  settles : (q : Setup) → SettlesTo q (settled_form q)
  settles q = laws.settles q

  passes : ℕ → Setup → ℕ → Bool
  passes c q code = is_turned (settled_form q) (spelled c code)

  -- a code that spells an image of the settled form passes, and only such a one
  image_passes : (c code : ℕ) (q x : Setup) → IsAdmissible q → AreImages (settled_form q) x → Spells c code x → passes c q code ≡ true
  unfolding passes
  image_passes c code q x ok images spells =
      told_turned (settled_form q) x (spelled c code) ((spelled_is c code x).1 spells) ((laws.turns (settled_form q) x (laws.facts.settled_admissible q (settled_form q) ok (settles q))).0 images)

  passes_image : (c code : ℕ) (q : Setup) → IsAdmissible q → passes c q code ≡ true → (x : Setup) × AreImages (settled_form q) x × Spells c code x
  unfolding passes
  passes_image c code q ok t =
      let found = turned_told (settled_form q) (spelled c code) t in
      (found.0, (laws.turns (settled_form q) found.0 (laws.facts.settled_admissible q (settled_form q) ok (settles q))).1 found.2, (spelled_is c code found.0).0 found.1)

  first_told : (xs : List ℕ) (i : ℕ) → first_of xs ≡ Some i → Contains xs i
  first_told h0 i e = grind arith

  told_first : (n : ℕ) (p : ℕ → Bool) (i : ℕ) (xs : List ℕ) → xs ≡ passing_below n p → Contains xs i → ((k : ℕ) → Contains xs k → i ≤ k) → first_of xs ≡ Some i
  told_first n p i [] e c least = absurd (omega (arith, c.1))
  told_first n p i (x ∷ xs) e c least =
      let here = first_is_least n p x xs e i c in
      let there = least x (0, omega arith, refl) in
      ap Some (let same : x ≡ i = omega (arith, here, there) in same)

  first_least : (n : ℕ) (p : ℕ → Bool) (i : ℕ) (xs : List ℕ) → xs ≡ passing_below n p → first_of xs ≡ Some i → (k : ℕ) → Contains xs k → i ≤ k
  first_least n p i [] e first k c = absurd (omega (arith, c.1))
  first_least n p i (x ∷ xs) e first k c =
      let same : x ≡ i = (let y : Some x ≡ Some i = first in cc) in
      let here = first_is_least n p x xs e k c in
      omega (arith, same, here)

  index_found : (c i : ℕ) (q : Setup) → IsAdmissible q → first_of (passing_below (size_of c) (passes c q)) ≡ Some i → IsIndex c q i
  index_found c i q ok e =
      let list = passing_below (size_of c) (passes c q) in
      let has = first_told list i e in
      let below = passing_is_below (size_of c) (passes c q) i has in
      let image = passes_image c i q ok (passing_passes (size_of c) (passes c q) i has) in
      record {
        settled = settled_form q;
        settles = settles q;
        image = image.0;
        images = image.1;
        spells = image.2;
        least = λ other code images spells. elim (cases_lt code (size_of c)) [
          | inl lt ↦ first_least (size_of c) (passes c q) i list refl e code (passing_has (size_of c) (passes c q) code lt (image_passes c code q other ok images spells))
          | inr ge ↦ omega (arith, ge, below)
        ];
      }

  found_index : (c i : ℕ) (q : Setup) → IsAdmissible q → IsIndex c q i → first_of (passing_below (size_of c) (passes c q)) ≡ Some i
  found_index c i q ok is =
      let same : is.settled ≡ settled_form q = laws.settled_once q is.settled is.settles in
      let images = subst (λ s. AreImages s is.image) same is.images in
      let list = passing_below (size_of c) (passes c q) in
      told_first (size_of c) (passes c q) i list refl (passing_has (size_of c) (passes c q) i (laws.facts.index_below q c i is) (image_passes c i q is.image ok images is.spells))
      (λ k has. let other = passes_image c k q ok (passing_passes (size_of c) (passes c q) k has) in is.least other.0 k (subst (λ s. AreImages s other.0) (sym same) other.1) other.2)

  pub index_is : (c i : ℕ) (q : Setup) → IsAdmissible q → (index_in c q ≡ Some i) ↔ IsIndex c q i
  unfolding index_in passes
  index_is c i q ok = (index_found c i q ok, found_index c i q ok)

  -- ---- the position at an index

  number_told : (i : ℕ) (o : Option ℕ) → is_number i o ≡ true → o ≡ Some i
  number_told i h1 t = grind (arith, false≢true, eqb-true)

  told_number : (i : ℕ) (o : Option ℕ) → o ≡ Some i → is_number i o ≡ true
  told_number i o e = subst (λ x. is_number i x ≡ true) (sym e) (eq-eqb i i refl)

  kept_told : (b : Bool) (o : Option Setup) (p : Setup) → kept_if b o ≡ Some p → (b ≡ true) × (o ≡ Some p)
  kept_told h0 o p e = grind arith

  told_kept : (b : Bool) (o : Option Setup) (p : Setup) → b ≡ true → o ≡ Some p → kept_if b o ≡ Some p
  told_kept h0 o p t e = grind (arith, false≢true)

  at_told : (c i : ℕ) (p : Setup) (o : Option Setup) → o ≡ spelled c i → kept_if (has_index c i o) o ≡ Some p → IsAt c i p
  at_told c i p o is e =
      let kept = kept_told (has_index c i o) o p e in
      let spells = (spelled_is c i p).0 (sym is ∙ kept.1) in
      let index = number_told i (index_in c p) (subst (λ x. has_index c i x ≡ true) kept.1 kept.0) in
      record { spells = spells; index = (index_is c i p spells.admissible).0 index }

  told_at : (c i : ℕ) (p : Setup) → IsAt c i p → kept_if (has_index c i (spelled c i)) (spelled c i) ≡ Some p
  told_at c i p at =
      let e = (spelled_is c i p).1 at.spells in
      let index = (index_is c i p at.spells.admissible).1 at.index in
      told_kept (has_index c i (spelled c i)) (spelled c i) p (subst (λ x. has_index c i x ≡ true) (sym e) (told_number i (index_in c p) index)) e

  pub position_is : (c i : ℕ) (p : Setup) → (position_at c i ≡ Some p) ↔ IsAt c i p
  unfolding position_at
  position_is c i p = (at_told c i p (spelled c i) refl, told_at c i p)

  not_void : (c i : ℕ) (o : Option Setup) → o ≡ position_at c i → IsVoid c i → is_some o ≡ false
  not_void c i None e void = refl
  not_void c i (Some p) e void = let at = (position_is c i p).0 (sym e) in absurd (void p at.spells.admissible at.index)

  -- no position is there exactly at void indexes
  pub void_is : (c i : ℕ) → IsVoid c i → is_some (position_at c i) ≡ false
  void_is c i void = not_void c i (position_at c i) refl void

  pub there_is : (c i : ℕ) (p : Setup) → IsAt c i p → is_some (position_at c i) ≡ true
  there_is c i p at = ap is_some ((position_is c i p).1 at)

  some_told : (o : Option Setup) → is_some o ≡ true → (p : Setup) × (o ≡ Some p)
  some_told None t = absurd (false≢true t)
  some_told (Some p) t = (p, refl)

  -- a node has its position
  pub node_at : (c i : ℕ) → not (is_some (position_at c i)) ≡ false → (p : Setup) × IsAt c i p
  node_at c i t =
      let some = some_told (position_at c i) (not_not (is_some (position_at c i)) t) in
      (some.0, (position_is c i some.0).0 some.1)
    where
      not_not : (b : Bool) → not b ≡ false → b ≡ true
      not_not h0 t = grind (arith, false≢true)

  -- ---- moves that go on

  goes_told : (metric : Metric) (c : ℕ) (p q : Setup) (m : Move) → IsAdmissible q → goes_on metric c p m q ≡ true → GoesOn metric c p m q
  goes_told Mate c p q m ok t = let some = index_some (index_in c q) t in (some.0, (index_is c some.0 q ok).0 some.1)
    where
      index_some : (o : Option ℕ) → is_some o ≡ true → (i : ℕ) × (o ≡ Some i)
      index_some h0 t = grind (arith, false≢true)
  goes_told Zeroing c p q m ok t = λ z. false≢true (sym (not-true (tells (decided_zeroes p m)) t) ∙ tells_where (decided_zeroes p m) z)

  told_goes : (metric : Metric) (c : ℕ) (p q : Setup) (m : Move) → IsAdmissible q → GoesOn metric c p m q → goes_on metric c p m q ≡ true
  told_goes Mate c p q m ok on = ap is_some ((index_is c on.0 q ok).1 on.1)
  told_goes Zeroing c p q m ok on = of_told (decided_zeroes p m)
    where
      of_told : (d : Decided (Zeroes p m)) → not (tells d) ≡ true
      of_told (inl z) = absurd (on z)
      of_told (inr z) = refl

  pub goes_is : (metric : Metric) (c : ℕ) (p q : Setup) (m : Move) → IsAdmissible q → (goes_on metric c p m q ≡ true) ↔ GoesOn metric c p m q
  goes_is metric c p q m ok = (goes_told metric c p q m ok, told_goes metric c p q m ok)

  leads_told : (metric : Metric) (c j : ℕ) (p : Setup) (m : Move) (o : Option Setup) → IsAdmissible p → o ≡ played p m → leads_on metric c j p m o ≡ true → (q : Setup) × Leads p m q × GoesOn metric c p m q × IsIndex c q j
  leads_told metric c j p m None ok e t = absurd (false≢true t)
  leads_told metric c j p m (Some q) ok e t =
      let leads = (laws.played p q m).1 (sym e) in
      let q_ok = laws.facts.step_admissible p q m ok leads in
      let parts = and_parts (goes_on metric c p m q) (is_number j (index_in c q)) t in
      (q, leads, goes_told metric c p q m q_ok parts.0, (index_is c j q q_ok).0 (number_told j (index_in c q) parts.1))

  told_leads : (metric : Metric) (c j : ℕ) (p q : Setup) (m : Move) (o : Option Setup) → IsAdmissible p → o ≡ Some q → Leads p m q → GoesOn metric c p m q → IsIndex c q j → leads_on metric c j p m o ≡ true
  told_leads metric c j p q m o ok e leads on index =
      let q_ok = laws.facts.step_admissible p q m ok leads in
      subst (λ x. leads_on metric c j p m x ≡ true) (sym e)
      (both (goes_on metric c p m q) (is_number j (index_in c q)) (told_goes metric c p q m q_ok on) (told_number j (index_in c q) ((index_is c j q q_ok).1 index)))
    where
      both : (a b : Bool) → a ≡ true → b ≡ true → (a && b) ≡ true
      both h0 b t u = grind arith

  edge_told : (metric : Metric) (c i j : ℕ) (o : Option Setup) → o ≡ position_at c i → connects_from metric c j o ≡ true → Connects metric c i j
  edge_told metric c i j None e t = absurd (false≢true t)
  edge_told metric c i j (Some p) e t =
      let at = (position_is c i p).0 (sym e) in
      let some = Any-from_list_any (λ m. leads_on metric c j p m (played p m)) (moves_of p) t in
      let led = leads_told metric c j p some.1 (played p some.1) at.spells.admissible refl some.4 in
      record { from = p; at = at; move = some.1; to = led.0; leads = led.1; on = led.2; index = led.3 }

  told_edge : (metric : Metric) (c i j : ℕ) (edge : Connects metric c i j) → connects_from metric c j (Some edge.from) ≡ true
  told_edge metric c i j edge =
      let p = edge.from in
      let ok = edge.at.spells.admissible in
      let has = (laws.listed p edge.move ok).1 (edge.to, edge.leads) in
      list_any-from_Any (λ m. leads_on metric c j p m (played p m)) (moves_of p)
      (has.0, edge.move, has.1, has.2, told_leads metric c j p edge.to edge.move (played p edge.move) ok ((laws.played p edge.to edge.move).0 edge.leads) edge.leads edge.on edge.index)

  -- an index that a position has spells a position
  pub spelled_there : (c j : ℕ) (q : Setup) → c < 36 → IsAdmissible q → IsIndex c q j → is_some (position_at c j) ≡ true
  spelled_there c j q below ok is = ⊎_elim
      (λ (h : (p : Setup) × Spells c j p × IsIndex c p j). there_is c j h.0 (record { spells = h.1; index = h.2 }))
      (λ (void : IsVoid c j). absurd (void q ok is)) (laws.index_or_void c j below)

  edge_connects : (metric : Metric) (c i j : ℕ) → c < 36 → Connects metric c i j → connects metric c i j ≡ true
  unfolding connects
  edge_connects metric c i j below edge =
      let q_ok = laws.facts.step_admissible edge.from edge.to edge.move edge.at.spells.admissible edge.leads in
      both (is_some (position_at c j)) (connects_from metric c j (position_at c i)) (spelled_there c j edge.to below q_ok edge.index)
      (subst (λ x. connects_from metric c j x ≡ true) (sym ((position_is c i edge.from).1 edge.at)) (told_edge metric c i j edge))
    where
      both : (a b : Bool) → a ≡ true → b ≡ true → (a && b) ≡ true
      both h0 b t u = grind arith

  connects_edge : (metric : Metric) (c i j : ℕ) → connects metric c i j ≡ true → Connects metric c i j
  unfolding connects
  connects_edge metric c i j t = edge_told metric c i j (position_at c i) refl (and_parts (is_some (position_at c j)) (connects_from metric c j (position_at c i)) t).1

  -- the test tells exactly the moves that go on
  pub connects_is : (metric : Metric) (c i j : ℕ) → c < 36 → (connects metric c i j ≡ true) ↔ Connects metric c i j
  connects_is metric c i j below = (connects_edge metric c i j, edge_connects metric c i j below)
