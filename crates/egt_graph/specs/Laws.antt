-- Laws of values.
use Rattle.std.specs.Prelude.{◌≡◌, ℕ, ◌≤◌, IsTrue}
use Rattle.egt_graph.specs.Prelude.{Graph, IsNode, IsGame, mated_within, mates_within, HasRank, Exit}

abbrev pub MorePliesDoNoHarm : Type 0
MorePliesDoNoHarm =
    (g : Graph) (i n m : ℕ) → n ≤ m
    → (IsTrue (mates_within g n i) → IsTrue (mates_within g m i)) × (IsTrue (mated_within g n i) → IsTrue (mated_within g m i))

abbrev pub EachNodeHasOneValue : Type 0
EachNodeHasOneValue =
    (g : Graph) → IsGame g → (i : ℕ) → IsNode g i
    → ((n m : ℕ) → IsTrue (mates_within g n i) → IsTrue (mated_within g m i) → ⊥) × ((v w : Exit) → HasRank g i v → HasRank g i w → v ≡ w)
