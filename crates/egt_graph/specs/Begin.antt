-- The columns as they are filled, node by node.
use Rattle.std.specs.Prelude.{◌≡◌, ℕ, ◌+◌, ◌<◌, ◌≤◌, ◌==◌, Bool, false, List, [], length, slice_index, slice_index_or, count_by, if◌then◌else◌}
use Rattle.std.specs.List.{list_any}
use Rattle.egt_graph.specs.Graph.{Graph}
use Rattle.egt_graph.specs.Columns.{outs, leaves, count_of, entry_at, later_at, is_loss, is_win_of, is_loss_of}
use Rattle.egt_graph.specs.declared.game.Exit.{Exit}

-- the node was added under the numbers of its exits
abbrev pub Adds : (ℕ → Exit → Bool) → List (List ℕ) → List (List ℕ) → ℕ → List Exit → Type 0
Adds test rounds rounds' node exits =
    (n i : ℕ) → count_of i (slice_index_or rounds' n []) ≡ count_of i (slice_index_or rounds n []) + (if node == i then count_by (test n) exits else 0)

-- the nodes with exits of each number, among the first m
pub record IsFilled (g : Graph) (test : ℕ → Exit → Bool) (m : ℕ) (rounds : List (List ℕ)) : Type 0 where
  pub before : (n i : ℕ) → i < m → count_of i (slice_index_or rounds n []) ≡ count_by (test n) (leaves g i)
  pub after : (n i : ℕ) → m ≤ i → count_of i (slice_index_or rounds n []) ≡ 0

-- what the first m nodes begin with
pub record IsBegun (g : Graph) (m : ℕ) (entries waits later : List ℕ) (lost : List Bool) (lost_due won_due : List (List ℕ)) : Type 0 where
  pub entries_long : length entries ≡ m
  pub waits_long : length waits ≡ m
  pub later_long : length later ≡ m
  pub lost_long : length lost ≡ m
  pub entry : (i : ℕ) → i < m → slice_index entries i ≡ entry_at g 0 i
  pub waiting : (i : ℕ) → i < m → slice_index waits i ≡ length (outs g i) + length (leaves g i)
  pub wins : (i : ℕ) → i < m → slice_index later i ≡ later_at g 0 i
  pub losses : (i : ℕ) → i < m → slice_index_or lost i false ≡ list_any is_loss (leaves g i)
  pub lost_exits : IsFilled g is_loss_of m lost_due
  pub won_exits : IsFilled g is_win_of m won_due
