-- Games of stairs, as tests make them. The nodes of the lowest step have no move, and each other has one, to the node one step below. Nodes may leave the
-- game besides. Those of the lowest step that do not are checkmates, or stalemates. The last numbers are no nodes.
use Rattle.std.specs.Prelude.{◌≡◌, ℕ, zero, suc, ◌+◌, ◌-◌, ◌<◌, ◌==◌, Bool, true, false, ◌&&◌, cond, List, [], ◌∷◌, map, filter, nat_lt, nat_le, if◌then◌else◌, refl, All, Contains}
use Rattle.std.specs.List.Sorted.{IsStrictlyIncreasing}
use Rattle.std.proofs.Common.{arith, ap, ltb, leb, get_or}
use Rattle.std.proofs.lemmas.Bool.{and_parts, leb-true, leb-false, lt-leb, lt-ltb, le-ltb, ltb-true, ltb-false, false≢true}
use Rattle.std.proofs.lemmas.List.Elements.{All-cons, All-nil}
use Rattle.egt_graph.specs.Graph.{Graph, IsNode, IsGame, HasShortDistance}
use Rattle.egt_graph.specs.Value.{is_empty}
use Rattle.egt_graph.specs.declared.game.Exit.{Exit}
use Rattle.egt_graph.specs.declared.game.Exit.TheVariants.{Win, Loss, Draw}

abbrev pub is_short : Exit → Bool
is_short (Win n) = nat_le n 32000
is_short (Loss n) = nat_le n 32000
is_short Draw = true

abbrev pub is_exit_of : ℕ → (ℕ × Exit) → Bool
is_exit_of i e = (e.0 == i) && is_short e.1

-- the short ones of the exits that are listed for the node
abbrev pub exits_of : List (ℕ × Exit) → ℕ → List Exit
exits_of exits i = map (λ (e : ℕ × Exit). e.1) (filter (is_exit_of i) exits)

abbrev pub stairs : ℕ → ℕ → ℕ → Bool → List (ℕ × Exit) → Graph
stairs nodes voids step mates exits = record {
  size = nodes + voids;
  void = λ i. nat_le nodes i;
  mated = λ i. (mates && nat_lt i step) && is_empty (exits_of exits i);
  out = λ i. if nat_lt i step then [] else ((i - step) ∷ []);
  into = λ j. if nat_lt (j + step) nodes then ((j + step) ∷ []) else [];
  exits = exits_of exits;
}

-- ---- the law

short_from_test : (e : Exit) → is_short e ≡ true → HasShortDistance e
short_from_test (Win n) h = leb-true n 32000 h
short_from_test (Loss n) h = leb-true n 32000 h
short_from_test Draw h = tt

short_cond : (i : ℕ) (b : Bool) (e : ℕ × Exit) (xs : List (ℕ × Exit)) → is_exit_of i e ≡ b → All HasShortDistance (map (λ (x : ℕ × Exit). x.1) xs)
    → All HasShortDistance (map (λ (x : ℕ × Exit). x.1) (cond b (e ∷ xs) xs))
short_cond i true e xs h each = All-cons HasShortDistance e.1 _ (short_from_test e.1 (and_parts (e.0 == i) (is_short e.1) h).1) each
short_cond i false e xs h each = each

all_short : (i : ℕ) (exits : List (ℕ × Exit)) → All HasShortDistance (exits_of exits i)
all_short i [] = All-nil HasShortDistance
all_short i (e ∷ es) = short_cond i (is_exit_of i e) e (filter (is_exit_of i) es) refl (all_short i es)

none_there : (xs : List Exit) → is_empty xs ≡ true → xs ≡ []
none_there [] t = refl
none_there (x ∷ xs) t = absurd (false≢true t)

one_node : (P : ℕ → Type 0) (x : ℕ) → P x → All P (x ∷ [])
one_node P x p = All-cons P x [] p (All-nil P)

one_ascends : (x : ℕ) → IsStrictlyIncreasing (x ∷ [])
one_ascends x k lt = absurd (omega arith)

pub stairs_are_a_game : (nodes voids step : ℕ) (mates : Bool) (exits : List (ℕ × Exit)) → IsGame (stairs nodes voids step mates exits)
stairs_are_a_game nodes voids step mates exits = record {
  out_nodes = λ i node. out_nodes i (ltb i step) node;
  into_nodes = λ j node. into_nodes j (ltb (j + step) nodes) refl;
  out_ascends = λ i node. out_ascends i (ltb i step);
  into_ascends = λ j node. into_ascends j (ltb (j + step) nodes);
  back = λ i j a b c. back i j a (ltb i step) refl c;
  forth = λ i j a b c. forth i j (ltb (j + step) nodes) refl c;
  short_exits = λ i node. all_short i exits;
  mate_ends = λ i node m.
      let both = and_parts (mates && ltb i step) (is_empty (exits_of exits i)) m in
      (ap (λ b. cond b [] ((i - step) ∷ [])) (and_parts mates (ltb i step) both.0).1, none_there (exits_of exits i) both.1);
}
  where
    g : Graph
    g = stairs nodes voids step mates exits

    node_at : (k : ℕ) → k < nodes → IsNode g k
    node_at k lt = record { in_range = omega (arith, lt); not_void = lt-leb nodes k lt }

    below : (i : ℕ) → IsNode g i → i < nodes
    below i node = leb-false nodes i node.not_void

    out_nodes : (i : ℕ) (b : Bool) → IsNode g i → All (IsNode g) (cond b [] ((i - step) ∷ []))
    out_nodes i true node = All-nil (IsNode g)
    out_nodes i false node = let lt = below i node in one_node (IsNode g) (i - step) (node_at (i - step) (omega (arith, lt)))

    into_nodes : (j : ℕ) (b : Bool) → ltb (j + step) nodes ≡ b → All (IsNode g) (cond b ((j + step) ∷ []) [])
    into_nodes j true e = one_node (IsNode g) (j + step) (node_at (j + step) (ltb-true (j + step) nodes e))
    into_nodes j false e = All-nil (IsNode g)

    out_ascends : (i : ℕ) (b : Bool) → IsStrictlyIncreasing (cond b [] ((i - step) ∷ []))
    out_ascends i true = λ k lt. absurd (omega arith)
    out_ascends i false = one_ascends (i - step)

    into_ascends : (j : ℕ) (b : Bool) → IsStrictlyIncreasing (cond b ((j + step) ∷ []) [])
    into_ascends j true = one_ascends (j + step)
    into_ascends j false = λ k lt. absurd (omega arith)

    only : (x y k : ℕ) → k < 1 → get_or (x ∷ []) k y ≡ y → x ≡ y
    only x y zero lt e = e
    only x y (suc k) lt e = absurd (omega arith)

    here : (x y : ℕ) → x ≡ y → Contains (x ∷ []) y
    here x y e = (0, omega arith, e)

    back : (i j : ℕ) → IsNode g i → (b : Bool) → ltb i step ≡ b → Contains (cond b [] ((i - step) ∷ [])) j → Contains (g.into j) i
    back i j a true e c = absurd (let lt = c.1 in omega arith)
    back i j a false e c =
        let at = only (i - step) j c.0 c.1 c.2 in
        let above = ltb-false i step e in
        let lt = below i a in
        let is : j + step ≡ i = omega arith in
        rw (lt-ltb (j + step) nodes (omega arith)) (here (j + step) i is)

    forth : (i j : ℕ) → (b : Bool) → ltb (j + step) nodes ≡ b → Contains (cond b ((j + step) ∷ []) []) i → Contains (g.out i) j
    forth i j true e c =
        let at = only (j + step) i c.0 c.1 c.2 in
        let is : i - step ≡ j = omega arith in
        rw (le-ltb i step (omega arith)) (here (i - step) j is)
    forth i j false e c = absurd (let lt = c.1 in omega arith)
