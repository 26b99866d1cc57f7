-- The columns of a run hold: functions of the game, the round and the nodes whose moves were taken back, whatever
-- the order in which that was done.
use Rattle.std.specs.Prelude.{◌≡◌, ℕ, zero, suc, ◌+◌, ◌*◌, ◌/◌, Bool, true, false, not, ◌&&◌, ◌||◌, List, [], slice_index, slice_index_or, count_by, take, ◌==◌, nat_lt, nat_le, if◌then◌else◌}
use Rattle.std.specs.List.{list_any}
use Rattle.egt_graph.specs.Graph.{Graph}
use Rattle.egt_graph.specs.Value.{is_empty, is_lost_before, is_won_before, mated_within, mates_within, mated_before, mates_before}
use Rattle.egt_graph.specs.Frontier.{is_node, is_entry_of_round}
use Rattle.egt_graph.specs.declared.game.Exit.{Exit}
use Rattle.egt_graph.specs.declared.game.Exit.TheVariants.{Win, Loss, Draw}

-- the moves at any number, none where it is no node
abbrev pub outs : Graph → ℕ → List ℕ
outs g i = if is_node g i then g.out i else []

abbrev pub ins : Graph → ℕ → List ℕ
ins g j = if is_node g j then g.into j else []

abbrev pub leaves : Graph → ℕ → List Exit
leaves g i = if is_node g i then g.exits i else []

abbrev pub has_moves : Graph → ℕ → Bool
has_moves g i = not (is_empty (outs g i) && is_empty (leaves g i))

-- how often i stands in the list
abbrev pub count_of : ℕ → List ℕ → ℕ
count_of i xs = count_by (λ x. x == i) xs

-- an undecided entry becomes a win or a loss in n plies; any other entry stays
abbrev pub decided : ℕ → Bool → Bool → ℕ → ℕ
decided entry win loss n = if entry == 1 then (if win then 2 + 2 * n else (if loss then 3 + 2 * n else 1)) else entry

-- the entry of i once all ranks up to r are known
abbrev pub entry_at : Graph → ℕ → ℕ → ℕ
entry_at g zero i = if is_node g i then (if g.mated i then 3 else 1) else 0
entry_at g (suc r) i = decided (entry_at g r i) (mates_within g (suc r) i) (mated_within g (suc r) i) (suc r)

-- the block of j was posted in this round
abbrev pub done_of : List Bool → ℕ → Bool
done_of posted j = slice_index_or posted (j / 4096) false

-- j is known to win: from an earlier round, or from this one and done
abbrev pub is_known_win : Graph → ℕ → (ℕ → Bool) → ℕ → Bool
is_known_win g r done j = mates_before g r j || (mates_within g r j && done j)

abbrev pub is_known_loss : Graph → ℕ → (ℕ → Bool) → ℕ → Bool
is_known_loss g r done j = mated_before g r j || (mated_within g r j && done j)

-- moves to nodes that are not known to win, and exits that are no win in fewer than due plies
abbrev pub waits_at : Graph → ℕ → (ℕ → Bool) → ℕ → ℕ → ℕ
waits_at g r done due i =
    count_by (λ j. not (is_known_win g r done j)) (outs g i) + count_by (λ e. not (is_won_before due e)) (leaves g i)

-- a move leads to a node that is known to lose, or out to one that loses in fewer than due plies
abbrev pub is_winning : Graph → ℕ → (ℕ → Bool) → ℕ → ℕ → Bool
is_winning g r done due i = list_any (is_known_loss g r done) (outs g i) || list_any (is_lost_before due) (leaves g i)

abbrev pub is_win_from : ℕ → Exit → Bool
is_win_from due (Win k) = nat_le due k
is_win_from due (Loss k) = false
is_win_from due Draw = false

abbrev pub is_loss : Exit → Bool
is_loss (Win k) = false
is_loss (Loss k) = true
is_loss Draw = false

-- exits of exactly that number of plies
abbrev pub is_win_of : ℕ → Exit → Bool
is_win_of n (Win k) = k == n
is_win_of n (Loss k) = false
is_win_of n Draw = false

abbrev pub is_loss_of : ℕ → Exit → Bool
is_loss_of n (Win k) = false
is_loss_of n (Loss k) = k == n
is_loss_of n Draw = false

-- exits that are a win in due plies or more
abbrev pub later_at : Graph → ℕ → ℕ → ℕ
later_at g due i = count_by (is_win_from due) (leaves g i)

-- entries and counters, over any account of what is won and what each node waits for
pub record Hold (base : ℕ → ℕ) (moves win : ℕ → Bool) (wait : ℕ → ℕ) (n : ℕ) (entries waits : List ℕ) : Type 0 where
  pub entry : (i : ℕ) → slice_index entries i ≡ decided (base i) (win i) (moves i && (wait i == 0)) n
  pub waiting : (i : ℕ) → slice_index waits i ≡ wait i

-- the columns in round r, with the moves into the nodes of `done` taken back, exits of a loss due up to `lost`, and
-- those of a win up to `won`
abbrev pub Amid : Graph → ℕ → (ℕ → Bool) → ℕ → ℕ → List ℕ → List ℕ → Type 0
Amid g r done lost won entries waits =
    Hold (entry_at g r) (has_moves g) (is_winning g r done lost) (waits_at g r done won) (r + 1) entries waits

-- the listed nodes were marked as wins in n plies
abbrev pub Marks : List ℕ → List ℕ → ℕ → List ℕ → Type 0
Marks entries nodes n entries' =
    (i : ℕ) → slice_index entries' i ≡ decided (slice_index entries i) (nat_lt 0 (count_of i nodes)) false n

-- each listed node waits for one move less, and has lost in n plies where it waits for none
pub record TakesBack (entries waits nodes : List ℕ) (n : ℕ) (entries' waits' : List ℕ) : Type 0 where
  pub entry : (i : ℕ) → slice_index entries' i
      ≡ decided (slice_index entries i) false (nat_lt 0 (count_of i nodes) && (slice_index waits' i == 0)) n
  pub waiting : (i : ℕ) → slice_index waits' i + count_of i nodes ≡ slice_index waits i

-- what is known of exits that are not due: how many may still turn out wins, and whether one is a loss
pub record Await (g : Graph) (due : ℕ) (later : List ℕ) (lost : List Bool) : Type 0 where
  pub wins : (i : ℕ) → slice_index later i ≡ later_at g due i
  pub losses : (i : ℕ) → slice_index_or lost i false ≡ list_any is_loss (leaves g i)

-- a node whose rank is n or will yet be found: it is decided in n plies, or undecided with a lost exit, or with nothing
-- to wait for but exits that are won
abbrev pub is_open : ℕ → ℕ → ℕ → ℕ → Bool → Bool
is_open n entry wait later lost = is_entry_of_round n entry || ((entry == 1) && (lost || (nat_lt 0 wait && (wait == later))))

abbrev pub is_open_at : ℕ → List ℕ → List ℕ → List ℕ → List Bool → ℕ → Bool
is_open_at n entries waits later lost i =
    is_open n (slice_index entries i) (slice_index waits i) (slice_index later i) (slice_index_or lost i false)

-- done within the posted blocks, and the first k of some nodes more
abbrev pub done_by : List Bool → List ℕ → ℕ → ℕ → Bool
done_by posted nodes k x = done_of posted x || nat_lt 0 (count_of x (take k nodes))
