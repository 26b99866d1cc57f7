-- Two kings alone: no move of theirs zeroes, so that none leaves a game.
use Rattle.std.proofs.Common.{◌≡◌, ℕ, Bool, false, ◌&&◌, ◌||◌, List, [], ◌∷◌, ◌++◌, Option, Some, None, refl, sym, ap}
use Rattle.std.proofs.Common.{◌∙◌, subst, inl, inr, arith}
use Rattle.egt_blocks.specs.Prelude.{material_of, materials}
use Rattle.egt_board.specs.Prelude.{HasNoPawn}
use Rattle.egt_graph.specs.Prelude.{IsAlike}
use Rattle.egt_index.specs.Prelude.{has_pawns}
use Rattle.egt_sweep.specs.Prelude.{is_some, list_any, flat_map, Setup, moves_of, index_in, leads_on, connects, exits_at}
use Rattle.egt_sweep.specs.Prelude.{option_to_list, IsAdmissible, passing_below, position_at, exits_from, class_game}
use Rattle.egt_sweep.specs.Prelude.{IsOf, Zeroes, Leads, size_of, played, Move, Metric, Mate, Zeroing, Tables, Laws}
use Rattle.egt_sweep.specs.Nodes.{connects_from, is_number}
use Rattle.egt_sweep.proofs.Linked.{goes_is, position_is}
use Rattle.egt_sweep.proofs.Members.{In, in_contains}
use Rattle.egt_sweep.proofs.OutOfClass.{quiet_no_exit}
use Rattle.egt_sweep.proofs.Staying.{quiet_goes_on}

pub kings_without_pawns : (c : ℕ) → c ≡ 0 → has_pawns (material_of c) ≡ false
unfolding material_of materials
kings_without_pawns c first = subst (λ (k : ℕ). has_pawns (material_of k) ≡ false) (sym first) refl

-- what they would take leads to a child of their class, and it has none
kings_zero_nothing : Laws → (p q : Setup) (m : Move) → IsAdmissible p → (flipped : Bool) × IsOf 0 flipped p → HasNoPawn p.men → Leads p m q → ¬ Zeroes p m
kings_zero_nothing laws p q m ok of none leads (inl held) =
    let child = laws.other_class p q m 0 of.0 (omega arith) ok of.1 leads (inl (inl held)) in
    let below = laws.facts.child_below 0 child.0 (omega arith) child.2 in
    omega (arith, below)
kings_zero_nothing laws p q m ok of none leads (inr pawn) = none m.from pawn.man pawn.stands pawn.pawn

flat_none : {X Y : Type 0} (f : X → List Y) (xs : List X) → ((x : X) → In x xs → f x ≡ []) → flat_map f xs ≡ []
flat_none f [] none = refl
flat_none f (x ∷ xs) none = ap (λ ys. ys ++ flat_map f xs) (none x (inl refl)) ∙ flat_none f xs (λ y there. none y (inr there))

pub kings_have_no_exit : Laws → (tables : Tables) (metric : Metric) (c : ℕ) (p : Setup) → c ≡ 0 → IsAdmissible p → (flipped : Bool) × IsOf c flipped p → HasNoPawn p.men → [] ≡ exits_from tables metric c (Some p)
kings_have_no_exit laws tables metric c p first ok of none = sym (flat_none _ (moves_of p) (λ m there.
    let legal = (laws.listed p m ok).0 (in_contains m (moves_of p) there) in
    let own : (flipped : Bool) × IsOf 0 flipped p = (of.0, subst (λ k. IsOf k of.0 p) first of.1) in
    ap option_to_list (quiet_no_exit laws tables metric c p legal.0 m ok legal.1 (omega (arith, first)) of (kings_zero_nothing laws p legal.0 m ok own none legal.1))))

-- ---- both games over them are one

any_alike : {X : Type 0} (f g : X → Bool) (xs : List X) → ((x : X) → In x xs → f x ≡ g x) → list_any f xs ≡ list_any g xs
any_alike f g [] same = refl
any_alike f g (x ∷ xs) same = ap (λ b. b || list_any f xs) (same x (inl refl)) ∙ ap (λ b. g x || b) (any_alike f g xs (λ y there. same y (inr there)))

module _ (laws : Laws) (c : ℕ) (first : c ≡ 0) (none : (flipped : Bool) (p : Setup) → IsAdmissible p → IsOf c flipped p → HasNoPawn p.men) where
  -- each move goes on in either game
  led : (metric : Metric) (j : ℕ) (p q : Setup) (m : Move) → IsAdmissible p → (flipped : Bool) × IsOf c flipped p → Leads p m q → leads_on metric c j p m (played p m) ≡ is_number j (index_in c q)
  led metric j p q m ok of leads =
      let q_ok = laws.facts.step_admissible p q m ok leads in
      let own : (flipped : Bool) × IsOf 0 flipped p = (of.0, subst (λ k. IsOf k of.0 p) first of.1) in
      let quiet = kings_zero_nothing laws p q m ok own (none of.0 p ok of.1) leads in
      let on = (goes_is laws metric c p q m q_ok).1 (quiet_goes_on laws c metric p q m (omega (arith, first)) ok q_ok of leads quiet) in
      ap (leads_on metric c j p m) ((laws.played p q m).0 leads) ∙ ap (λ b. b && is_number j (index_in c q)) on

  connected : (i j : ℕ) (o : Option Setup) → o ≡ position_at c i → connects_from Zeroing c j o ≡ connects_from Mate c j o
  connected i j None here = refl
  connected i j (Some p) here =
      let at = (position_is laws c i p).0 (sym here) in
      let ok = at.spells.admissible in
      let of = laws.indexed_class p c i ok at.index in
      any_alike (λ m. leads_on Zeroing c j p m (played p m)) (λ m. leads_on Mate c j p m (played p m)) (moves_of p) (λ m there.
      let legal = (laws.listed p m ok).0 (in_contains m (moves_of p) there) in
      led Zeroing j p legal.0 m ok of legal.1 ∙ sym (led Mate j p legal.0 m ok of legal.1))

  one_edge : (i j : ℕ) → connects Zeroing c i j ≡ connects Mate c i j
  unfolding connects
  one_edge i j = ap (λ b. is_some (position_at c j) && b) (connected i j (position_at c i) refl)

  no_exits : (tables : Tables) (metric : Metric) (i : ℕ) (o : Option Setup) → o ≡ position_at c i → [] ≡ exits_from tables metric c o
  no_exits tables metric i None here = refl
  no_exits tables metric i (Some p) here =
      let at = (position_is laws c i p).0 (sym here) in
      let of = laws.indexed_class p c i at.spells.admissible at.index in
      kings_have_no_exit laws tables metric c p first at.spells.admissible of (none of.0 p at.spells.admissible of.1)

  pub kings_have_one_game : (tables others : Tables) → IsAlike (class_game others Zeroing c) (class_game tables Mate c)
  unfolding exits_at
  kings_have_one_game tables others = record {
    size = refl;
    void = λ i below. refl;
    mated = λ i node. refl;
    out = λ i node. λ k. passing_below (size_of c) (λ j. one_edge i j k);
    into = λ j node. λ k. passing_below (size_of c) (λ i. one_edge i j k);
    exits = λ i node. sym (no_exits others Zeroing i (position_at c i) refl) ∙ no_exits tables Mate i (position_at c i) refl;
  }
