-- A batch as its readers see it.
use Rattle.std.specs.Prelude.{◌≡◌, ℕ, ◌+◌, ◌<◌, ◌≤◌, List, length, slice_index, slice_range, All}
use Rattle.std.specs.List.Sorted.{IsStrictlyIncreasing}
use Rattle.egt_graph.specs.Graph.{Graph, IsNode}
use Rattle.egt_graph.specs.Frontier.{blocks_of}

-- the nodes of one block and round of a game
pub record Work (G : Type 0) : Type 0 where
  pub game : G
  pub round : ℕ
  pub block : ℕ
  pub nodes : List ℕ

-- between the places k and k + 1 of `starts` stand the moves into the node at place k
pub record IsTargets (g : Graph) (nodes targets starts : List ℕ) (n : ℕ) : Type 0 where
  pub ordered : (k : ℕ) → k < n → slice_index starts k ≤ slice_index starts (k + 1)
  pub within : (k : ℕ) → k < n → slice_index starts (k + 1) ≤ length targets
  pub moves : (k : ℕ) → k < n → slice_range targets (slice_index starts k) (slice_index starts (k + 1)) ≡ g.into (slice_index nodes k)

pub record IsBatch (g : Graph) (block : ℕ) (nodes targets starts : List ℕ) : Type 0 where
  pub a_block : block < blocks_of g.size
  pub are_nodes : All (IsNode g) nodes
  pub ascending : IsStrictlyIncreasing nodes
  pub one_more : length starts ≡ length nodes + 1
  pub kept : IsTargets g nodes targets starts (length nodes)
