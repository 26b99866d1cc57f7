-- A batch taken in, node by node.
use Rattle.std.proofs.Common.{◌≡◌, ◌≢◌, ℕ, ◌+◌, ◌*◌, ◌<◌, ◌≤◌, Bool, true, false, List, length, slice_index}
use Rattle.std.proofs.Common.{slice_index_or, get_or, set, sym, ap, subst, ◌∙◌, arith, All}
use Rattle.egt_graph.specs.Prelude.{and_parts, All-weaker, Graph, IsNode, IsGame, IsAlike, mated_within, mates_within}
use Rattle.egt_graph.specs.Prelude.{mates_before, is_node, front, ins, count_of, entry_at, decided, Amid, Marks}
use Rattle.egt_graph.specs.Prelude.{TakesBack, done_of, done_by}
use Rattle.egt_graph.proofs.Nodes.{node_from_test, ins_at, with_node, lost_node_marks, won_node_takes_back, less}
use Rattle.egt_graph.proofs.Blocks.{Found, Wins, Loses, found, found_entry, front_at, Amid_redone, done_by_none, done_by_more, done_by_all, not_done}

-- one node of a batch of round r, at place k, with the nodes that a move leads from to it
pub record IsTurn (g : Graph) (r block k : ℕ) (posted : List Bool) (nodes sources : List ℕ) : Type 0 where
  pub whole : nodes ≡ front g r block
  pub in_list : k < length nodes
  pub fresh : slice_index_or posted block false ≡ false
  pub moves : sources ≡ g.into (get_or nodes k 0)

turn_node : (g : Graph) (r block k : ℕ) (posted : List Bool) (nodes sources : List ℕ) → IsTurn g r block k posted nodes sources → IsNode g (get_or nodes k 0)
turn_node g r block k posted nodes sources t =
    let f = front_at g r block k nodes t.whole t.in_list in node_from_test g _ (and_parts (is_node g (get_or nodes k 0)) _ f.0).0

turn_sources : (g : Graph) (r block k : ℕ) (posted : List Bool) (nodes sources : List ℕ) → IsTurn g r block k posted nodes sources → sources ≡ ins g (get_or nodes k 0)
turn_sources g r block k posted nodes sources t =
    let f = front_at g r block k nodes t.whole t.in_list in t.moves ∙ sym (ins_at g _ (and_parts (is_node g (get_or nodes k 0)) _ f.0).0)

pub sources_within : (g : Graph) → IsGame g → (r block k : ℕ) (posted : List Bool) (nodes sources : List ℕ) → IsTurn g r block k posted nodes sources
    → (n : ℕ) → n ≡ g.size → All (λ i. i < n) sources
sources_within g law r block k posted nodes sources t n e =
    rw (t.moves, e) (All-weaker (IsNode g) (λ i. i < g.size) (λ i node. node.in_range) (g.into (get_or nodes k 0)) (law.into_nodes _ (turn_node g r block k posted nodes sources t)))

-- the entry of the node tells a win from a loss
found_win : (g : Graph) (r i e : ℕ) (win loss : Bool) → Found g r i → e ≡ decided (entry_at g r i) win loss (r + 1) → e ≡ 2 + 2 * r
    → (mates_within g r i ≡ true) × (mates_before g r i ≡ false)
found_win g r i e win loss (Wins p a b) is q = (a, b)
found_win g r i e win loss (Loses p a b) is q =
    let k = is ∙ found_entry g r i win loss (r + 1) (Loses p a b) ∙ p in absurd (omega arith)

found_loss : (g : Graph) (r i e : ℕ) (win loss : Bool) → Found g r i → e ≡ decided (entry_at g r i) win loss (r + 1) → e ≢ 2 + 2 * r → mated_within g r i ≡ true
found_loss g r i e win loss h is q = grind arith

pub turn_won : (g : Graph) → IsGame g → (r block k : ℕ) (posted : List Bool) (nodes sources : List ℕ) (due won : ℕ) (es ws es' ws' : List ℕ)
    → IsTurn g r block k posted nodes sources → Amid g r (done_by posted nodes k) due won es ws → get_or es (get_or nodes k 0) 0 ≡ 2 + 2 * r
    → TakesBack es ws sources (r + 1) es' ws' → Amid g r (done_by posted nodes (k + 1)) due won es' ws'
turn_won g law r block k posted nodes sources due won es ws es' ws' t h is takes =
    let f = front_at g r block k nodes t.whole t.in_list in
    let w = found_win g r _ _ _ _ (found g law r _ f.0) (h.entry (get_or nodes k 0)) is in
    let P : List ℕ → Type 0 = λ xs. TakesBack es ws xs (r + 1) es' ws' in
    Amid_redone g law r (with_node (done_by posted nodes k) (get_or nodes k 0)) (done_by posted nodes (k + 1)) due won es' ws'
    (λ x ranked. done_by_more posted nodes k t.in_list x)
    (won_node_takes_back g law r (done_by posted nodes k) due won (get_or nodes k 0) es ws es' ws' (turn_node g r block k posted nodes sources t) w.0 w.1
    (not_done g r block k posted nodes t.whole t.in_list t.fresh) h (subst P (turn_sources g r block k posted nodes sources t) takes))

pub turn_lost : (g : Graph) → IsGame g → (r block k : ℕ) (posted : List Bool) (nodes sources : List ℕ) (due won : ℕ) (es ws es' : List ℕ)
    → IsTurn g r block k posted nodes sources → Amid g r (done_by posted nodes k) due won es ws → get_or es (get_or nodes k 0) 0 ≢ 2 + 2 * r
    → Marks es sources (r + 1) es' → Amid g r (done_by posted nodes (k + 1)) due won es' ws
turn_lost g law r block k posted nodes sources due won es ws es' t h is marks =
    let f = front_at g r block k nodes t.whole t.in_list in
    let l = found_loss g r _ _ _ _ (found g law r _ f.0) (h.entry (get_or nodes k 0)) is in
    let P : List ℕ → Type 0 = λ xs. Marks es xs (r + 1) es' in
    Amid_redone g law r (with_node (done_by posted nodes k) (get_or nodes k 0)) (done_by posted nodes (k + 1)) due won es' ws
    (λ x ranked. done_by_more posted nodes k t.in_list x)
    (lost_node_marks g law r (done_by posted nodes k) due won (get_or nodes k 0) es ws es' (turn_node g r block k posted nodes sources t) l h
    (subst P (turn_sources g r block k posted nodes sources t) marks))

-- a won node takes back no move that is not waited for
pub turn_waited : (g : Graph) → IsGame g → (r block k : ℕ) (posted : List Bool) (nodes sources : List ℕ) (due won : ℕ) (es ws : List ℕ)
    → IsTurn g r block k posted nodes sources → Amid g r (done_by posted nodes k) due won es ws → get_or es (get_or nodes k 0) 0 ≡ 2 + 2 * r
    → (i : ℕ) → count_of i sources ≤ slice_index ws i
turn_waited g law r block k posted nodes sources due won es ws t h is i =
    let f = front_at g r block k nodes t.whole t.in_list in
    let w = found_win g r _ _ _ _ (found g law r _ f.0) (h.entry (get_or nodes k 0)) is in
    let l = less g law r (done_by posted nodes k) won (get_or nodes k 0) (turn_node g r block k posted nodes sources t) w.0 w.1
    (not_done g r block k posted nodes t.whole t.in_list t.fresh) i in
    let e = ap (count_of i) (turn_sources g r block k posted nodes sources t) in
    let a = h.waiting i in
    omega arith

pub turns_begin : (g : Graph) → IsGame g → (r : ℕ) (posted : List Bool) (nodes : List ℕ) (due won : ℕ) (es ws : List ℕ)
    → Amid g r (done_of posted) due won es ws → Amid g r (done_by posted nodes 0) due won es ws
turns_begin g law r posted nodes due won es ws h = Amid_redone g law r _ _ due won es ws (λ x ranked. done_by_none posted nodes x) h

pub turns_end : (g : Graph) → IsGame g → (r block : ℕ) (posted : List Bool) (nodes : List ℕ) (due won : ℕ) (es ws : List ℕ)
    → nodes ≡ front g r block → block < length posted → slice_index_or posted block false ≡ false → (k : ℕ) → k ≡ length nodes
    → Amid g r (done_by posted nodes k) due won es ws → Amid g r (done_of (set posted block true)) due won es ws
turns_end g law r block posted nodes due won es ws whole in_range fresh k e h =
    Amid_redone g law r _ _ due won es ws (λ x ranked. ap (λ n. done_by posted nodes n x) e ∙ done_by_all g r block posted nodes whole in_range fresh x ranked) h

-- a batch that was made over a game whose calls all answer alike serves as well
pub turn_from : (g h : Graph) → IsAlike g h → (r block k : ℕ) (posted : List Bool) (nodes listed sources : List ℕ)
    → nodes ≡ listed → listed ≡ front g r block → k < length nodes → slice_index_or posted block false ≡ false
    → sources ≡ h.into (slice_index listed k) → IsTurn g r block k posted nodes sources
turn_from g h alike r block k posted nodes listed sources same whole in_list fresh moves = record {
  whole = same ∙ whole;
  in_list = in_list;
  fresh = fresh;
  moves =
      let f = front_at g r block k nodes (same ∙ whole) in_list in
      moves ∙ ap (λ ns. h.into (get_or ns k 0)) (sym same) ∙ sym (alike.into (get_or nodes k 0) (node_from_test g _ (and_parts (is_node g (get_or nodes k 0)) _ f.0).0));
}
