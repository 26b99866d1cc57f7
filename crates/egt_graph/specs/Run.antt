-- The state of a run between its calls.
use Rattle.std.specs.Prelude.{◌≡◌, ℕ, ◌<◌, ◌≤◌, ◌^◌, Bool, List, [], length, slice_index_or, count_by}
use Rattle.egt_graph.specs.Graph.{Graph}
use Rattle.egt_graph.specs.Value.{AreRanks}
use Rattle.egt_graph.specs.Frontier.{blocks_of}
use Rattle.egt_graph.specs.Rounds.{State}
use Rattle.egt_graph.specs.Columns.{leaves, count_of, is_win_of, is_loss_of, done_of, Amid, Await}
use Rattle.egt_graph.specs.declared.game.Exit.{Exit}
use Rattle.egt_graph.specs.declared.answer.Phase.{Phase}
use Rattle.egt_graph.specs.declared.answer.Phase.TheVariants.{Running, Finished, TooDeep}

-- a run as its callers see it
pub record Run (G : Type 0) : Type 0 where
  pub game : G
  pub state : State

-- under each number stand the nodes with exits of that number, as often as they have some
abbrev pub IsSchedule : Graph → (ℕ → Exit → Bool) → List (List ℕ) → Type 0
IsSchedule g test rounds = (n i : ℕ) → count_of i (slice_index_or rounds n []) ≡ count_by (test n) (leaves g i)

-- the columns by phase: a run that has gone past its limit keeps nothing of them
abbrev pub Holds : Phase → Graph → ℕ → ℕ → List Bool → List ℕ → List ℕ → List ℕ → List Bool → Type 0
Holds Running g limit round posted entries waits later lost =
    Amid g round (done_of posted) round round entries waits × Await g round later lost
Holds Finished g limit round posted entries waits later lost = AreRanks g limit entries
Holds TooDeep g limit round posted entries waits later lost = Unit {0}

pub record IsRun (g : Graph) (v : State) (entries waits later : List ℕ) (lost : List Bool) (lost_due won_due : List (List ℕ)) : Type 0 where
  pub small : g.size < 2 ^ 32
  pub short : v.limit ≤ 32000
  pub in_limit : v.round ≤ v.limit
  pub flags : length v.posted ≡ blocks_of g.size
  pub entries_long : length entries ≡ g.size
  pub waits_long : length waits ≡ g.size
  pub later_long : length later ≡ g.size
  pub lost_long : length lost ≡ g.size
  pub losses : IsSchedule g is_loss_of lost_due
  pub wins : IsSchedule g is_win_of won_due
  pub columns : Holds v.phase g v.limit v.round v.posted entries waits later lost
