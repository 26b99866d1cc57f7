-- The nodes of a round, block by block.
use Rattle.std.specs.Prelude.{ℕ, ◌+◌, ◌-◌, ◌*◌, ◌/◌, Bool, ◌&&◌, ◌||◌, not, List, length, filter, min, ◌==◌, nat_lt, slice_index}
use Rattle.std.specs.List.{range_with_len}
use Rattle.std.specs.List.Sorted.{IsStrictlyIncreasing}
use Rattle.std.proofs.Common.{arith}
use Rattle.std.proofs.lemmas.List.FromFn.{length-range_with_len, get_or-range_with_len}
use Rattle.std.proofs.lemmas.List.Kept.{IsStrictlyIncreasing-filter}
use Rattle.egt_graph.specs.Graph.{Graph}
use Rattle.egt_graph.specs.Value.{mates_within, mates_before, mated_within, mated_before}

-- the nodes of a block, of which the last may have fewer
abbrev pub block_len : ℕ → ℕ → ℕ
block_len size block = min 4096 (size - 4096 * block)

abbrev pub blocks_of : ℕ → ℕ
blocks_of size = (size + 4095) / 4096

abbrev pub is_node : Graph → ℕ → Bool
is_node g i = nat_lt i g.size && not (g.void i)

-- node i wins or loses in exactly n plies
abbrev pub is_ranked : Graph → ℕ → ℕ → Bool
is_ranked g n i =
    is_node g i && ((mates_within g n i && not (mates_before g n i)) || (mated_within g n i && not (mated_before g n i)))

-- the nodes of the block whose rank is n, ascending
abbrev pub front : Graph → ℕ → ℕ → List ℕ
front g n block = filter (is_ranked g n) (range_with_len (4096 * block) (block_len g.size block))

pub range-ascends : (a n : ℕ) → IsStrictlyIncreasing (range_with_len a n)
range-ascends a n k lt =
    let long = length-range_with_len a n in
    let x = get_or-range_with_len a n k 0 (omega arith) in
    let y = get_or-range_with_len a n (k + 1) 0 (omega arith) in
    omega arith

pub front-ascends : (g : Graph) (n block : ℕ) → IsStrictlyIncreasing (front g n block)
front-ascends g n block = IsStrictlyIncreasing-filter (is_ranked g n) (range_with_len (4096 * block) (block_len g.size block)) (range-ascends (4096 * block) (block_len g.size block))

-- an entry that spells a win or a loss in n plies
abbrev pub is_entry_of_round : ℕ → ℕ → Bool
is_entry_of_round n entry = (entry == 2 + 2 * n) || (entry == 3 + 2 * n)

-- the places of such entries among the first m, ascending; all such places
abbrev pub frontier_below : List ℕ → ℕ → ℕ → List ℕ
frontier_below entries n m = filter (λ k. is_entry_of_round n (slice_index entries k)) (range_with_len 0 m)

abbrev pub frontier_of : List ℕ → ℕ → List ℕ
frontier_of entries n = filter (λ k. is_entry_of_round n (slice_index entries k)) (range_with_len 0 (length entries))

-- the numbers of a block whose entries are of the round, ascending
abbrev pub entry_front : List ℕ → ℕ → ℕ → List ℕ
entry_front entries n block = filter (λ i. is_entry_of_round n (slice_index entries i)) (range_with_len (4096 * block) (block_len (length entries) block))
