-- A run by rounds as its callers see it. Counters, exits that fall due and orders of arrival do not occur in it.
use Rattle.std.specs.Prelude.{◌≡◌, ◌≢◌, ℕ, ◌+◌, ◌<◌, Bool, true, false, List, [], length, replicate, slice_index_or, slice_set, IsTrue, IsFalse, All}
use Rattle.egt_graph.specs.Graph.{Graph}
use Rattle.egt_graph.specs.Value.{SomeAbove, NoneAbove}
use Rattle.egt_graph.specs.Frontier.{blocks_of, front}
use Rattle.egt_graph.specs.declared.answer.Phase.{Phase}
use Rattle.egt_graph.specs.declared.answer.Phase.TheVariants.{Running, Finished as IsOver, TooDeep as IsPastLimit}
use Rattle.egt_graph.specs.declared.answer.Post.{Post}
use Rattle.egt_graph.specs.declared.answer.Post.TheVariants.{Posted, Repeat, Stale}
use Rattle.egt_graph.specs.declared.answer.Close.{Close}
use Rattle.egt_graph.specs.declared.answer.Close.TheVariants.{Next, Finished, NotAll, TooDeep}

pub record State : Type 0 where
  pub limit : ℕ
  pub round : ℕ
  pub phase : Phase
  -- one flag a block: was its batch posted in this round?
  pub posted : List Bool

-- no block was posted yet
abbrev pub none_posted : Graph → List Bool
none_posted g = replicate (blocks_of g.size) false

abbrev pub begun : Graph → ℕ → State
begun g limit = record { limit = limit; round = 0; phase = Running; posted = none_posted g }

-- the nodes that an expansion lists
abbrev pub listed_in : Graph → Phase → ℕ → ℕ → List ℕ
listed_in g Running round block = front g round block
listed_in g IsOver round block = []
listed_in g IsPastLimit round block = []

abbrev pub listed : Graph → State → ℕ → List ℕ
listed g v block = listed_in g v.phase v.round block

-- a block counts as posted once the run has ended, too
abbrev pub is_posted_in : Phase → List Bool → ℕ → Bool
is_posted_in Running posted block = slice_index_or posted block false
is_posted_in IsOver posted block = true
is_posted_in IsPastLimit posted block = true

abbrev pub is_posted : State → ℕ → Bool
is_posted v block = is_posted_in v.phase v.posted block

-- a batch of this round that lists exactly the block's nodes of the round
pub record IsCurrent (g : Graph) (v : State) (round block : ℕ) (nodes : List ℕ) : Type 0 where
  pub running : v.phase ≡ Running
  pub this_round : round ≡ v.round
  pub whole : nodes ≡ front g v.round block

-- what a post of a batch answers, and what it leaves
abbrev pub Posts : Graph → State → ℕ → ℕ → List ℕ → Post → State → Type 0
Posts g v round block nodes Posted w =
    IsCurrent g v round block nodes × IsFalse (slice_index_or v.posted block false) × (w ≡ record v { posted = slice_set v.posted block true })
Posts g v round block nodes Repeat w =
    IsCurrent g v round block nodes × IsTrue (slice_index_or v.posted block false) × (w ≡ v)
Posts g v round block nodes Stale w = ¬ IsCurrent g v round block nodes × (w ≡ v)

abbrev pub AllPosted : State → Type 0
AllPosted v = All IsTrue v.posted

abbrev pub SomeMissing : State → Type 0
SomeMissing v = (block : ℕ) × (block < length v.posted) × IsFalse (slice_index_or v.posted block true)

-- what a close answers while the run goes on, and what it leaves
abbrev pub ClosesRunning : Graph → State → Close → State → Type 0
ClosesRunning g v NotAll w = SomeMissing v × (w ≡ v)
ClosesRunning g v Finished w = AllPosted v × NoneAbove g v.round × (w ≡ record v { phase = IsOver })
ClosesRunning g v TooDeep w = AllPosted v × SomeAbove g v.round × (v.round ≡ v.limit) × (w ≡ record v { phase = IsPastLimit })
ClosesRunning g v Next w =
    AllPosted v × SomeAbove g v.round × (v.round ≢ v.limit) × (w ≡ record v { round = v.round + 1; posted = none_posted g })

-- a run that has ended gives its answer again
abbrev pub ClosesIn : Phase → Graph → State → Close → State → Type 0
ClosesIn Running g v answer w = ClosesRunning g v answer w
ClosesIn IsOver g v answer w = (answer ≡ Finished) × (w ≡ v)
ClosesIn IsPastLimit g v answer w = (answer ≡ TooDeep) × (w ≡ v)

abbrev pub Closes : Graph → State → Close → State → Type 0
Closes g v answer w = ClosesIn v.phase g v answer w
