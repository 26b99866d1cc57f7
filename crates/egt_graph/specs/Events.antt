-- Lists of events, in any order: expansions, posts and closes. A batch that is lost is an expansion without a post.
use Rattle.std.specs.Prelude.{◌≡◌, ℕ, ◌<◌, Bool, true, false, not, ◌||◌, ◌==◌, List, [], ◌∷◌, ◌++◌, count_by, ◌⊎◌}
use Rattle.std.specs.List.{list_any}
use Rattle.egt_graph.specs.Graph.{Graph, IsGame, IsAlike}
use Rattle.egt_graph.specs.Value.{AreRanks, SomeAbove, NoneAbove}
use Rattle.egt_graph.specs.Frontier.{blocks_of, front}
use Rattle.egt_graph.specs.Rounds.{State, begun, listed, is_posted, Posts, Closes}
use Rattle.egt_graph.specs.declared.answer.Phase.{Phase}
use Rattle.egt_graph.specs.declared.answer.Phase.TheVariants.{Running, Finished as IsOver, TooDeep as IsPastLimit}
use Rattle.egt_graph.specs.declared.answer.Post.{Post}
use Rattle.egt_graph.specs.declared.answer.Post.TheVariants.{Posted, Repeat, Stale}
use Rattle.egt_graph.specs.declared.answer.Close.{Close}
use Rattle.egt_graph.specs.declared.answer.Close.TheVariants.{Next, Finished, NotAll, TooDeep}

pub data Event : Type 0 where
  -- a block, and the nodes that its batch lists
  Expanded : ℕ → List ℕ → Event
  -- a batch's round, block and nodes, and the answer
  Received : ℕ → ℕ → List ℕ → Post → Event
  Closed : Close → Event

abbrev pub Steps : Graph → State → Event → State → Type 0
Steps g v (Expanded block nodes) w = (nodes ≡ listed g v block) × (w ≡ v)
Steps g v (Received round block nodes answer) w = Posts g v round block nodes answer w
Steps g v (Closed answer) w = Closes g v answer w

-- the events lead from one state to the other
abbrev pub Runs : Graph → State → List Event → State → Type 0
Runs g v [] w = w ≡ v
Runs g v (event ∷ events) w = (u : State) × Steps g v event u × Runs g u events w

abbrev pub is_next : Event → Bool
is_next (Expanded block nodes) = false
is_next (Received round block nodes answer) = false
is_next (Closed Next) = true
is_next (Closed Finished) = false
is_next (Closed NotAll) = false
is_next (Closed TooDeep) = false

abbrev pub is_end : Event → Bool
is_end (Expanded block nodes) = false
is_end (Received round block nodes answer) = false
is_end (Closed Next) = false
is_end (Closed Finished) = true
is_end (Closed NotAll) = false
is_end (Closed TooDeep) = true

-- whether the block is ticked after an event: a batch that is answered Posted ticks its block, a new round none
abbrev pub ticked_by : ℕ → Bool → Event → Bool
ticked_by b flag (Expanded block nodes) = flag
ticked_by b flag (Received round block nodes Posted) = (block == b) || flag
ticked_by b flag (Received round block nodes Repeat) = flag
ticked_by b flag (Received round block nodes Stale) = flag
ticked_by b flag (Closed Next) = false
ticked_by b flag (Closed Finished) = flag
ticked_by b flag (Closed NotAll) = flag
ticked_by b flag (Closed TooDeep) = flag

abbrev pub ticked_after : ℕ → Bool → List Event → Bool
ticked_after b flag [] = flag
ticked_after b flag (event ∷ events) = ticked_after b (ticked_by b flag event) events

abbrev pub is_running : Phase → Bool
is_running Running = true
is_running IsOver = false
is_running IsPastLimit = false

-- where the run stands after an event: an answer Finished or TooDeep is its end
abbrev pub phase_by : Phase → Event → Phase
phase_by phase (Expanded block nodes) = phase
phase_by phase (Received round block nodes answer) = phase
phase_by phase (Closed Next) = phase
phase_by phase (Closed Finished) = IsOver
phase_by phase (Closed NotAll) = phase
phase_by phase (Closed TooDeep) = IsPastLimit

abbrev pub phase_after : Phase → List Event → Phase
phase_after phase [] = phase
phase_after phase (event ∷ events) = phase_after (phase_by phase event) events

-- what any list of events from the beginning leaves
pub record AfterEvents (g : Graph) (limit : ℕ) (events : List Event) (v : State) : Type 0 where
  pub limited : v.limit ≡ limit
  -- the round is the number of answers Next
  pub round : v.round ≡ count_by is_next events
  -- the run goes on until an answer Finished or TooDeep, and that is the end it has
  pub phase : v.phase ≡ phase_after Running events
  pub running : is_running v.phase ≡ not (list_any is_end events)
  -- the blocks that count as posted are those posted since the last answer Next, and all once the run has ended
  pub posted : (b : ℕ) → b < blocks_of g.size → is_posted v b ≡ (list_any is_end events || ticked_after b false events)
  -- no round is begun without a rank to come, a finished run has none to come, one past its limit has one above it
  pub reached : (n : ℕ) → n < v.round → SomeAbove g n
  pub finished : v.phase ≡ IsOver → NoneAbove g v.round
  pub too_deep : v.phase ≡ IsPastLimit → SomeAbove g limit

abbrev pub EventsLeave : Type 0
EventsLeave = (g : Graph) (limit : ℕ) (events : List Event) (v : State) → Runs g (begun g limit) events v → AfterEvents g limit events v

-- whoever expands a block, and whenever, gets the nodes whose rank is the number of answers Next before, or none once
-- the run has ended
abbrev pub EachRoundIsOfItsRank : Type 0
EachRoundIsOfItsRank =
    (g : Graph) (limit : ℕ) (before after : List Event) (block : ℕ) (nodes : List ℕ) (v : State)
    → Runs g (begun g limit) (before ++ Expanded block nodes ∷ after) v
    → ((list_any is_end before ≡ false) × (nodes ≡ front g (count_by is_next before) block)) ⊎ ((list_any is_end before ≡ true) × (nodes ≡ []))

-- finished runs over games whose calls all answer alike have gone as many rounds, and whatever lists are the ranks of
-- the games, as into_ranks and solve give them, are one list
abbrev pub FinishedRunsAgree : Type 0
FinishedRunsAgree =
    (g h : Graph) → IsGame g → IsGame h → IsAlike g h → (limit limit' : ℕ) (events events' : List Event) (v w : State)
    → Runs g (begun g limit) events v → Runs h (begun h limit') events' w → v.phase ≡ IsOver → w.phase ≡ IsOver
    → (v.round ≡ w.round) × ((n m : ℕ) (ranks ranks' : List ℕ) → AreRanks g n ranks → AreRanks h m ranks' → ranks ≡ ranks')
