-- A finite game as its players see it: who may go where. Positions are numbers, its nodes.
use Rattle.std.specs.Prelude.{◌≡◌, ℕ, ◌<◌, ◌≤◌, Bool, List, [], All, Contains, IsTrue, IsFalse}
use Rattle.std.specs.List.Sorted.{IsStrictlyIncreasing}
use Rattle.egt_graph.specs.declared.game.Exit.{Exit}
use Rattle.egt_graph.specs.declared.game.Exit.TheVariants.{Win, Loss, Draw}

pub record Graph : Type 0 where
  -- the nodes are the numbers below the size that are not void
  pub size : ℕ
  pub void : ℕ → Bool
  -- the mover is checkmated
  pub mated : ℕ → Bool
  -- the nodes that one move leads to, and those that one move leads from
  pub out : ℕ → List ℕ
  pub into : ℕ → List ℕ
  -- the values of the positions outside that one move leads to, each for its own mover
  pub exits : ℕ → List Exit

pub record IsNode (g : Graph) (i : ℕ) : Type 0 where
  pub in_range : i < g.size
  pub not_void : IsFalse (g.void i)

-- a value from outside is of a distance that an entry can hold
abbrev pub HasShortDistance : Exit → Type 0
HasShortDistance (Win n) = n ≤ 32000
HasShortDistance (Loss n) = n ≤ 32000
HasShortDistance Draw = Unit {0}

-- `into` is exactly the inverse of `out`, and nothing moves on from a checkmate
pub record IsGame (g : Graph) : Type 0 where
  pub out_nodes : (i : ℕ) → IsNode g i → All (IsNode g) (g.out i)
  pub into_nodes : (j : ℕ) → IsNode g j → All (IsNode g) (g.into j)
  pub out_ascends : (i : ℕ) → IsNode g i → IsStrictlyIncreasing (g.out i)
  pub into_ascends : (j : ℕ) → IsNode g j → IsStrictlyIncreasing (g.into j)
  pub back : (i j : ℕ) → IsNode g i → IsNode g j → Contains (g.out i) j → Contains (g.into j) i
  pub forth : (i j : ℕ) → IsNode g i → IsNode g j → Contains (g.into j) i → Contains (g.out i) j
  pub short_exits : (i : ℕ) → IsNode g i → All HasShortDistance (g.exits i)
  pub mate_ends : (i : ℕ) → IsNode g i → IsTrue (g.mated i) → (g.out i ≡ []) × (g.exits i ≡ [])

-- two games whose calls all answer alike
pub record IsAlike (g h : Graph) : Type 0 where
  pub size : g.size ≡ h.size
  pub void : (i : ℕ) → i < g.size → g.void i ≡ h.void i
  pub mated : (i : ℕ) → IsNode g i → g.mated i ≡ h.mated i
  pub out : (i : ℕ) → IsNode g i → g.out i ≡ h.out i
  pub into : (j : ℕ) → IsNode g j → g.into j ≡ h.into j
  pub exits : (i : ℕ) → IsNode g i → g.exits i ≡ h.exits i
