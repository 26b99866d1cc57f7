-- Entries that are due: each is what the best of the node's successors makes of it. By whatever way such entries were found, they are the ranks, or
-- the numbers of the nearest mates.
use Rattle.std.specs.Prelude.{◌≡◌, ℕ, suc, ◌+◌, ◌*◌, ◌<◌, ◌≤◌, ◌⊎◌, List, Contains, Option, Some, None, length, slice_index, IsTrue, IsFalse}
use Rattle.std.specs.Option.{option_map}
use Rattle.egt_graph.specs.Graph.{Graph, IsGame, IsNode}
use Rattle.egt_graph.specs.Near.{AreNears, HasNear, SomeFar, near_entry_of}
use Rattle.egt_graph.specs.Value.{AreRanks, HasRank, SomeAbove, entry_of, has_move}
use Rattle.egt_graph.specs.declared.game.Exit.{Exit}
use Rattle.egt_graph.specs.declared.game.Exit.TheVariants.{Win, Loss, Draw}

-- what the entries tell of nodes
pub record Measure : Type 1 where
  pub Result : Type 0
  -- how an entry spells it, and what it is of a value outside
  pub spelt : Result → ℕ
  pub outside : Exit → Result
  -- a move to the first is as good as one to the second
  pub AsGood : Result → Result → Type 0
  -- of a checkmate, of a node without a move, and one ply before
  pub mate : Result
  pub stuck : Result
  pub before : Result → Result

-- the best is a position that is lost, the sooner the better; then one that is drawn; then one that is won, the later the better
abbrev pub IsAsGood : Exit → Exit → Type 0
IsAsGood (Loss n) (Loss k) = n ≤ k
IsAsGood (Loss n) (Win k) = Unit {0}
IsAsGood (Loss n) Draw = Unit {0}
IsAsGood Draw (Loss k) = ⊥
IsAsGood Draw (Win k) = Unit {0}
IsAsGood Draw Draw = Unit {0}
IsAsGood (Win n) (Loss k) = ⊥
IsAsGood (Win n) (Win k) = k ≤ n
IsAsGood (Win n) Draw = ⊥

abbrev pub value_before : Exit → Exit
value_before (Win n) = Loss (suc n)
value_before (Loss n) = Win (suc n)
value_before Draw = Draw

-- who wins, and in how many plies
abbrev pub values : Measure
values = record {
  Result = Exit;
  spelt = entry_of;
  outside = λ e. e;
  AsGood = IsAsGood;
  mate = Loss 0;
  stuck = Draw;
  before = value_before;
}

-- the nearest mate counts, whoever is mated
abbrev pub near_outside : Exit → Option ℕ
near_outside (Win n) = Some n
near_outside (Loss n) = Some n
near_outside Draw = None

abbrev pub IsAsNear : Option ℕ → Option ℕ → Type 0
IsAsNear (Some n) (Some k) = n ≤ k
IsAsNear (Some n) None = Unit {0}
IsAsNear None (Some k) = ⊥
IsAsNear None None = Unit {0}

-- how far the nearest mate is
abbrev pub nears : Measure
nears = record {
  Result = Option ℕ;
  spelt = near_entry_of;
  outside = near_outside;
  AsGood = IsAsNear;
  mate = Some 0;
  stuck = None;
  before = option_map suc;
}

-- this is told of a successor of node i: by its entry where the move stays in the game, or as of a value outside
abbrev pub IsNext : (measure : Measure) → Graph → (ℕ → ℕ) → ℕ → measure.Result → Type 0
IsNext measure g entry i r =
    ((j : ℕ) × Contains (g.out i) j × (entry j ≡ measure.spelt r)) ⊎ ((e : Exit) × Contains (g.exits i) e × (measure.outside e ≡ r))

-- and of no other successor anything better
pub record IsBest (measure : Measure) (g : Graph) (entry : ℕ → ℕ) (i : ℕ) (r : measure.Result) : Type 0 where
  pub next : IsNext measure g entry i r
  pub best : (other : measure.Result) → IsNext measure g entry i other → measure.AsGood r other

abbrev pub IsDueByMove : (measure : Measure) → Graph → (ℕ → ℕ) → ℕ → measure.Result → Type 0
IsDueByMove measure g entry i r = (next : measure.Result) × IsBest measure g entry i next × (r ≡ measure.before next)

-- what is due at node i: checkmate, no move, or one ply before the best successor
abbrev pub IsDueAt : (measure : Measure) → Graph → (ℕ → ℕ) → ℕ → measure.Result → Type 0
IsDueAt measure g entry i r =
    (IsTrue (g.mated i) × (r ≡ measure.mate)) ⊎ ((IsFalse (g.mated i) × IsFalse (has_move g i) × (r ≡ measure.stuck)) ⊎ IsDueByMove measure g entry i r)

-- an entry for each node, which is due, and 0 where there is no node
pub record AreDue (measure : Measure) (g : Graph) (entry : ℕ → ℕ) : Type 0 where
  pub voids : (i : ℕ) → i < g.size → IsTrue (g.void i) → entry i ≡ 0
  pub due : (i : ℕ) → IsNode g i → (r : measure.Result) × (entry i ≡ measure.spelt r) × IsDueAt measure g entry i r

-- what is due at a node depends on the entries of the nodes that a move leads to
abbrev pub SameNext : Graph → (ℕ → ℕ) → (ℕ → ℕ) → ℕ → Type 0
SameNext g entry other i = (j : ℕ) → Contains (g.out i) j → entry j ≡ other j

abbrev pub DueValuesStay : Type 0
DueValuesStay = (g : Graph) (entry other : ℕ → ℕ) (i : ℕ) → SameNext g entry other i → (v : Exit) → IsDueAt values g entry i v → IsDueAt values g other i v

abbrev pub DueNumbersStay : Type 0
DueNumbersStay = (g : Graph) (entry other : ℕ → ℕ) (i : ℕ) → SameNext g entry other i → (x : Option ℕ) → IsDueAt nears g entry i x → IsDueAt nears g other i x

-- ---- the values

-- each node's value is what its entry spells
abbrev pub DueEntriesAreValues : Type 0
DueEntriesAreValues = (g : Graph) → IsGame g → (entry : ℕ → ℕ) → AreDue values g entry → (i : ℕ) → IsNode g i → (v : Exit) → entry i ≡ entry_of v → HasRank g i v

-- the entries are the ranks, where none is past the limit
abbrev pub DueEntriesAreRanks : Type 0
DueEntriesAreRanks = (g : Graph) → IsGame g → (entries : List ℕ) → length entries ≡ g.size → AreDue values g (slice_index entries) → (limit : ℕ) →
    ((i : ℕ) → IsNode g i → slice_index entries i ≤ 3 + 2 * limit) → AreRanks g limit entries

-- an entry past the limit tells of a rank above it
abbrev pub DueEntriesAreAsDeep : Type 0
DueEntriesAreAsDeep = (g : Graph) → IsGame g → (entry : ℕ → ℕ) → AreDue values g entry → (limit i : ℕ) → IsNode g i → 3 + 2 * limit < entry i → SomeAbove g limit

-- ---- the nearest mates

abbrev pub DueEntriesAreNumbers : Type 0
DueEntriesAreNumbers = (g : Graph) → IsGame g → (entry : ℕ → ℕ) → AreDue nears g entry → (i : ℕ) → IsNode g i → (x : Option ℕ) → entry i ≡ near_entry_of x → HasNear g i x

abbrev pub DueEntriesAreNears : Type 0
DueEntriesAreNears = (g : Graph) → IsGame g → (entries : List ℕ) → length entries ≡ g.size → AreDue nears g (slice_index entries) →
    ((i : ℕ) → IsNode g i → slice_index entries i ≤ 32002) → AreNears g entries

abbrev pub DueEntriesAreAsFar : Type 0
DueEntriesAreAsFar = (g : Graph) → IsGame g → (entry : ℕ → ℕ) → AreDue nears g entry → (i : ℕ) → IsNode g i → 32002 < entry i → SomeFar g
