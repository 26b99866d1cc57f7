-- How far the nearest mate is by moves of both sides, whoever is mated: by plain induction on plies. A value from outside counts as its number.
use Rattle.std.specs.Prelude.{◌≡◌, ◌≢◌, ℕ, zero, suc, ◌+◌, ◌*◌, ◌/◌, ◌<◌, ◌≤◌, Bool, false, ◌||◌, List, [], Contains, Option, Some, None, length, slice_index, slice_index_or, IsTrue, IsFalse, nat_lt, if◌then◌else◌}
use Rattle.std.specs.List.{list_any}
use Rattle.egt_graph.specs.Graph.{Graph, IsNode}
use Rattle.egt_graph.specs.Frontier.{is_node}
use Rattle.egt_graph.specs.Columns.{count_of, decided, is_loss_of, is_win_of}
use Rattle.egt_graph.specs.Begin.{IsFilled}
use Rattle.egt_graph.specs.declared.game.Exit.{Exit}
use Rattle.egt_graph.specs.declared.game.Exit.TheVariants.{Win, Loss, Draw}
use Rattle.egt_graph.specs.declared.nearing.Nearing.{Nearing}

-- the position outside is won or lost in fewer than n plies
abbrev pub is_near_exit : ℕ → Exit → Bool
is_near_exit n (Win k) = nat_lt k n
is_near_exit n (Loss k) = nat_lt k n
is_near_exit n Draw = false

-- some line of at most n moves ends in mate, or leaves the game for where mate is that near
abbrev pub near_within : Graph → ℕ → ℕ → Bool
near_within g zero i = g.mated i
near_within g (suc n) i = g.mated i || (list_any (near_within g n) (g.out i) || list_any (is_near_exit (suc n)) (g.exits i))

-- the same of fewer than n
abbrev pub near_before : Graph → ℕ → ℕ → Bool
near_before g zero i = false
near_before g (suc n) i = near_within g n i

-- the least number of plies, or that there is none
abbrev pub HasNear : Graph → ℕ → Option ℕ → Type 0
HasNear g i (Some n) = IsTrue (near_within g n i) × IsFalse (near_before g n i)
HasNear g i None = (n : ℕ) → IsFalse (near_within g n i)

-- how an entry spells it, and that an entry can hold it
abbrev pub near_entry_of : Option ℕ → ℕ
near_entry_of (Some n) = 2 + n
near_entry_of None = 1

abbrev pub IsShort : Option ℕ → Type 0
IsShort (Some n) = n ≤ 32000
IsShort None = Unit {0}

-- one entry a node: its number, and 0 where there is no node
pub record AreNears (g : Graph) (entries : List ℕ) : Type 0 where
  pub all : length entries ≡ g.size
  pub voids : (i : ℕ) → i < g.size → IsTrue (g.void i) → slice_index entries i ≡ 0
  pub nears : (i : ℕ) → IsNode g i → (x : Option ℕ) × HasNear g i x × IsShort x × (slice_index entries i ≡ near_entry_of x)

-- some node has a number that no entry can hold
abbrev pub SomeFar : Graph → Type 0
SomeFar g = (i : ℕ) × IsNode g i × ((n : ℕ) × IsTrue (near_within g n i)) × IsFalse (near_within g 32000 i)

-- While they are looked for, a number n is kept as the entry of a win in n is: the entry of i once all numbers up to r are known.
abbrev pub near_at : Graph → ℕ → ℕ → ℕ
near_at g zero i = if is_node g i then (if g.mated i then 2 else 1) else 0
near_at g (suc r) i = decided (near_at g r i) (near_within g (suc r) i) false (suc r)

-- what is kept once all numbers up to r are known
pub record IsNearing (g : Graph) (r : ℕ) (run : Nearing) : Type 0 where
  pub long : length run.entries.items ≡ g.size
  pub entry : (i : ℕ) → slice_index run.entries.items i ≡ near_at g r i
  pub lost : IsFilled g is_loss_of g.size run.lost_due
  pub won : IsFilled g is_win_of g.size run.won_due

-- the same of the first m nodes, before any number but those of mated nodes is known
pub record IsNearingTo (g : Graph) (m : ℕ) (run : Nearing) : Type 0 where
  pub long : length run.entries.items ≡ m
  pub entry : (i : ℕ) → i < m → slice_index run.entries.items i ≡ near_at g 0 i
  pub lost : IsFilled g is_loss_of m run.lost_due
  pub won : IsFilled g is_win_of m run.won_due

-- a move leads from i to one of these
abbrev pub led_from : Graph → List ℕ → ℕ → Bool
led_from g found i = list_any (λ j. nat_lt 0 (count_of i (g.into j))) found

-- what a round finds: sources of what was found, and the exits that fall due
abbrev pub found_by : Graph → (found lost won : List ℕ) → ℕ → Bool
found_by g found lost won i = (led_from g found i || nat_lt 0 (count_of i lost)) || nat_lt 0 (count_of i won)

-- the listed nodes are found to be n plies away, where no number is known of them
abbrev pub Finds : List ℕ → (ℕ → Bool) → ℕ → List ℕ → Type 0
Finds entries found n entries' = (i : ℕ) → slice_index entries' i ≡ decided (slice_index entries i) (found i) false n

-- those below a number whose entry is of the round
pub record AreFound (entries : List ℕ) (r below : ℕ) (found : List ℕ) : Type 0 where
  pub sound : (i : ℕ) → Contains found i → (i < below) × (slice_index entries i ≡ 2 + 2 * r)
  pub complete : (i : ℕ) → i < below → slice_index entries i ≡ 2 + 2 * r → Contains found i

-- no value from outside comes later than r
abbrev pub NoneLater : ℕ → List (List ℕ) → Type 0
NoneLater r due = (n i : ℕ) → r < n → count_of i (slice_index_or due n []) ≡ 0

-- the entry in the form in which it is answered
abbrev pub near_of_entry : ℕ → ℕ
near_of_entry entry = if nat_lt entry 2 then entry else 1 + entry / 2

pub record AreTold (entries told : List ℕ) : Type 0 where
  pub long : length told ≡ length entries
  pub each : (i : ℕ) → i < length entries → slice_index told i ≡ near_of_entry (slice_index entries i)

-- nothing was found one ply past r, and nothing comes later from outside
pub record IsOver (run : Nearing) (r : ℕ) : Type 0 where
  pub none : (i : ℕ) → i < length run.entries.items → slice_index run.entries.items i ≢ 2 + 2 * (r + 1)
  pub lost : NoneLater r run.lost_due
  pub won : NoneLater r run.won_due
