-- Who wins, and in how many plies: forced mate by plain induction on plies (retrograde analysis computes it
-- backwards, Thompson 1986). "Within n" counts a mate that comes sooner too.
use Rattle.std.specs.Prelude.{◌≡◌, ℕ, zero, suc, ◌+◌, ◌*◌, ◌<◌, ◌≤◌, Bool, true, false, ◌&&◌, ◌||◌, not, List, [], ◌∷◌, length, IsTrue, IsFalse, nat_lt, slice_index}
use Rattle.std.specs.List.{list_any, list_all}
use Rattle.egt_graph.specs.Graph.{Graph, IsNode}
use Rattle.egt_graph.specs.declared.game.Exit.{Exit}
use Rattle.egt_graph.specs.declared.game.Exit.TheVariants.{Win, Loss, Draw}

abbrev pub is_empty : {X : Type 0} → List X → Bool
is_empty [] = true
is_empty (x ∷ xs) = false

-- the position outside is lost for its mover in fewer than n plies; it is won in fewer than n
abbrev pub is_lost_before : ℕ → Exit → Bool
is_lost_before n (Win k) = false
is_lost_before n (Loss k) = nat_lt k n
is_lost_before n Draw = false

abbrev pub is_won_before : ℕ → Exit → Bool
is_won_before n (Win k) = nat_lt k n
is_won_before n (Loss k) = false
is_won_before n Draw = false

-- the mover of i has a move
abbrev pub has_move : Graph → ℕ → Bool
has_move g i = not (is_empty (g.out i) && is_empty (g.exits i))

abbrev mutual
  -- the mover of i is mated within n plies, whatever the defence
  pub mated_within : Graph → ℕ → ℕ → Bool
  mated_within g zero i = g.mated i
  mated_within g (suc n) i =
      g.mated i || (has_move g i && (list_all (mates_within g n) (g.out i) && list_all (is_won_before (suc n)) (g.exits i)))

  -- the mover of i mates within n plies
  pub mates_within : Graph → ℕ → ℕ → Bool
  mates_within g zero i = false
  mates_within g (suc n) i = list_any (mated_within g n) (g.out i) || list_any (is_lost_before (suc n)) (g.exits i)

-- the same in fewer than n plies
abbrev pub mated_before : Graph → ℕ → ℕ → Bool
mated_before g zero i = false
mated_before g (suc n) i = mated_within g n i

abbrev pub mates_before : Graph → ℕ → ℕ → Bool
mates_before g zero i = false
mates_before g (suc n) i = mates_within g n i

-- the value of node i for its mover, at the least distance
abbrev pub HasRank : Graph → ℕ → Exit → Type 0
HasRank g i (Win n) = IsTrue (mates_within g n i) × IsFalse (mates_before g n i)
HasRank g i (Loss n) = IsTrue (mated_within g n i) × IsFalse (mated_before g n i)
HasRank g i Draw = (n : ℕ) → IsFalse (mates_within g n i) × IsFalse (mated_within g n i)

-- how an entry spells a value, and the distance that a value has
abbrev pub entry_of : Exit → ℕ
entry_of (Win n) = 2 + 2 * n
entry_of (Loss n) = 3 + 2 * n
entry_of Draw = 1

abbrev pub IsWithin : ℕ → Exit → Type 0
IsWithin limit (Win n) = n ≤ limit
IsWithin limit (Loss n) = n ≤ limit
IsWithin limit Draw = Unit {0}

-- one entry a node: its value, none past the limit, and 0 where there is no node
pub record AreRanks (g : Graph) (limit : ℕ) (entries : List ℕ) : Type 0 where
  pub all : length entries ≡ g.size
  pub voids : (i : ℕ) → i < g.size → IsTrue (g.void i) → slice_index entries i ≡ 0
  pub ranks : (i : ℕ) → IsNode g i → (v : Exit) × HasRank g i v × IsWithin limit v × (slice_index entries i ≡ entry_of v)

-- node i is won or lost within n plies
abbrev pub decided_within : Graph → ℕ → ℕ → Bool
decided_within g n i = mates_within g n i || mated_within g n i

-- some node has a rank above n; no node has one
abbrev pub SomeAbove : Graph → ℕ → Type 0
SomeAbove g n = (i : ℕ) × IsNode g i × ((m : ℕ) × IsTrue (decided_within g m i)) × IsFalse (decided_within g n i)

abbrev pub NoneAbove : Graph → ℕ → Type 0
NoneAbove g n = (i : ℕ) → IsNode g i → (m : ℕ) → IsTrue (decided_within g m i) → IsTrue (decided_within g n i)
