-- Invariants that a run keeps as it goes on.
use Rattle.std.proofs.Common.{◌≡◌, ◌≢◌, ℕ, ◌+◌, ◌/◌, ◌<◌, ◌≤◌, Bool, true, false, List, [], ◌++◌, length, slice_index}
use Rattle.std.proofs.Common.{slice_index_or, get_or, set, take, drop, sym, ap, subst, ◌∙◌, inl, inr, arith, All}
use Rattle.std.proofs.Common.{IsFalse, IsTrue, count_by, replicate}
use Rattle.egt_graph.specs.Prelude.{drop_all, append-nil, take_all, length-set, get_or_default, get_or-replicate}
use Rattle.egt_graph.specs.Prelude.{get_or_past, length-replicate, Graph, IsNode, IsGame, SomeAbove, NoneAbove, front}
use Rattle.egt_graph.specs.Prelude.{entry_front, blocks_of, State, listed, listed_in, IsRun, Holds, IsSchedule, leaves}
use Rattle.egt_graph.specs.Prelude.{count_of, done_of, Amid, Await, Marks, TakesBack, is_open_at, Phase, Running}
use Rattle.egt_graph.specs.Prelude.{Finished, Exit, is_node, cases_Bool}
use Rattle.egt_graph.proofs.Lists.{contains_counted}
use Rattle.egt_graph.proofs.Nodes.{node_from_test, leaves_none}
use Rattle.egt_graph.proofs.Exits.{lost_exits_mark, won_exits_take, won_exits_waited, later_next}
use Rattle.egt_graph.proofs.Closing.{next_round, closed_entries}
use Rattle.egt_graph.proofs.Ranking.{final_ranks}
use Rattle.egt_graph.proofs.RunOver.{IsClosed, some_above, none_open}
use Rattle.egt_graph.proofs.Blocks.{front_by_entries}

-- a slice of a whole `Vec`, written through
pub written : {A : Type 0} (n : ℕ) (new old : List A) → length new ≡ length old → n ≡ length old → take n (new ++ drop (length new) old) ≡ new
written n new old e f =
    ap (λ rest. take n (new ++ rest)) (drop_all (length new) old (omega arith)) ∙ ap (take n) (append-nil new) ∙ take_all n new (omega arith)

at_phase : (g : Graph) (p q : Phase) (limit round : ℕ) (posted : List Bool) (es ws ls : List ℕ) (fs : List Bool) → p ≡ q
    → Holds p g limit round posted es ws ls fs → Holds q g limit round posted es ws ls fs
at_phase g p q limit round posted es ws ls fs e h = let P : Phase → Type 0 = λ x. Holds x g limit round posted es ws ls fs in subst P e h

-- the columns while the run goes on
pub amid_of : (g : Graph) (v : State) (es ws ls : List ℕ) (fs : List Bool) (ld wd : List (List ℕ)) → IsRun g v es ws ls fs ld wd → v.phase ≡ Running
    → Amid g v.round (done_of v.posted) v.round v.round es ws × Await g v.round ls fs
amid_of g v es ws ls fs ld wd h e = at_phase g v.phase Running v.limit v.round v.posted es ws ls fs e h.columns

pub running_front : (g : Graph) → IsGame g → (v : State) (es ws ls : List ℕ) (fs : List Bool) (ld wd : List (List ℕ)) → IsRun g v es ws ls fs ld wd → v.phase ≡ Running
    → (block : ℕ) → entry_front es v.round block ≡ front g v.round block
running_front g law v es ws ls fs ld wd h e block =
    front_by_entries g law v.round block (done_of v.posted) v.round v.round es ws (amid_of g v es ws ls fs ld wd h e).0 h.entries_long

pub running_listed : (g : Graph) → IsGame g → (v : State) (es ws ls : List ℕ) (fs : List Bool) (ld wd : List (List ℕ)) → IsRun g v es ws ls fs ld wd → v.phase ≡ Running
    → (block : ℕ) → entry_front es v.round block ≡ listed g v block
running_listed g law v es ws ls fs ld wd h e block =
    running_front g law v es ws ls fs ld wd h e block ∙ sym (ap (λ p. listed_in g p v.round block) e)

-- after a post
pub posted_run : (g : Graph) (v : State) (es ws ls : List ℕ) (fs : List Bool) (ld wd : List (List ℕ)) → IsRun g v es ws ls fs ld wd → v.phase ≡ Running
    → (block : ℕ) (es' ws' : List ℕ) (posted : List Bool) → posted ≡ set v.posted block true → length es' ≡ length es → length ws' ≡ length ws
    → Amid g v.round (done_of posted) v.round v.round es' ws' → IsRun g (record v { posted = posted }) es' ws' ls fs ld wd
posted_run g v es ws ls fs ld wd h e block es' ws' posted is a b amid = grind (arith, length-set, at_phase, amid_of)

-- ---- a close

empty_count : (p : Exit → Bool) (xs : List Exit) → xs ≡ [] → count_by p xs ≡ 0
empty_count p xs e = ap (count_by p) e

-- what falls due does so for nodes
pub due_nodes : (g : Graph) (test : ℕ → Exit → Bool) (rounds : List (List ℕ)) → IsSchedule g test rounds → (n m : ℕ) → m ≡ g.size
    → All (λ i. i < m) (slice_index_or rounds n [])
due_nodes g test rounds h n m e = λ k d lt. rw e (within (get_or (slice_index_or rounds n []) k d)
    (contains_counted (get_or (slice_index_or rounds n []) k d) (slice_index_or rounds n []) k lt (get_or_default (slice_index_or rounds n []) k _ d lt)))
  where
    within : (i : ℕ) → 0 < count_of i (slice_index_or rounds n []) → i < g.size
    within i some = elim (cases_Bool (is_node g i)) [
      | inl t ↦ (node_from_test g i t).in_range
      | inr f ↦ let a = h n i in let b = empty_count (test n) (leaves g i) (leaves_none g i f) in absurd (omega arith)
    ]

pub all_done : (g : Graph) (posted : List Bool) → length posted ≡ blocks_of g.size → All IsTrue posted → (j : ℕ) → IsNode g j → done_of posted j ≡ true
all_done g posted long all j node = let lt = node.in_range in all (j / 4096) false (omega arith)

-- the columns once all blocks were posted and the exits of the round have fallen due
pub record Falls (g : Graph) (v : State) (es ws ls es' ws' ls' : List ℕ) (fs : List Bool) : Type 0 where
  pub all : All IsTrue v.posted
  pub hold : Amid g v.round (done_of v.posted) (v.round + 1) (v.round + 1) es' ws'
  pub closed : IsClosed g v.round (done_of v.posted) (v.round + 1) es' ws' ls' fs
  pub entries_long : length es' ≡ length es
  pub waits_long : length ws' ≡ length ws
  pub later_long : length ls' ≡ length ls

pub falls : (g : Graph) → IsGame g → (v : State) (es ws ls : List ℕ) (fs : List Bool) (ld wd : List (List ℕ)) → IsRun g v es ws ls fs ld wd → v.phase ≡ Running
    → All IsTrue v.posted → (es' ws' ls' es0 ws0 ls0 losses wins : List ℕ)
    → es0 ≡ es → ws0 ≡ ws → ls0 ≡ ls → losses ≡ slice_index_or ld v.round [] → wins ≡ slice_index_or wd v.round []
    → ((middle : List ℕ) × Marks es0 losses (v.round + 1) middle × TakesBack middle ws0 wins (v.round + 1) es' ws')
    → ((i : ℕ) → slice_index ls' i + count_of i wins ≡ slice_index ls0 i)
    → length es' ≡ length es0 → length ws' ≡ length ws0 → length ls' ≡ length ls0 → Falls g v es ws ls es' ws' ls' fs
falls g law v es ws ls fs ld wd h e all es' ws' ls' es0 ws0 ls0 losses wins a b c d f columns counts entries waits later = record {
  all = all;
  hold = hold;
  closed = record {
    entry = closed_entries g law v.round (done_of v.posted) (all_done g v.posted h.flags all) es' ws' (v.round + 1) (omega arith) hold;
    waiting = hold.waiting;
    exits = record {
      wins = λ i.
          let counted = rw (c, f) at counts i in
          let awaited = before.1.wins i in
          let next = later_next g v.round (slice_index_or wd v.round []) (h.wins v.round) i in
          omega arith;
      losses = before.1.losses;
    };
  };
  entries_long = entries ∙ ap length a;
  waits_long = waits ∙ ap length b;
  later_long = later ∙ ap length c;
}
  where
    before : Amid g v.round (done_of v.posted) v.round v.round es ws × Await g v.round ls fs
    before = amid_of g v es ws ls fs ld wd h e

    hold : Amid g v.round (done_of v.posted) (v.round + 1) (v.round + 1) es' ws'
    hold =
        won_exits_take g v.round (done_of v.posted) (v.round + 1) columns.0 ws (slice_index_or wd v.round []) es' ws' (h.wins v.round)
        (lost_exits_mark g v.round (done_of v.posted) v.round es ws (slice_index_or ld v.round []) columns.0 (h.losses v.round) before.0 (rw (a, d) at columns.1))
        (rw (b, f) at columns.2)

pub finished_run : (g : Graph) (v : State) (es ws ls : List ℕ) (fs : List Bool) (ld wd : List (List ℕ)) → IsRun g v es ws ls fs ld wd
    → (es' ws' ls' : List ℕ) → Falls g v es ws ls es' ws' ls' fs → NoneAbove g v.round → IsRun g (record v { phase = Finished }) es' ws' ls' fs ld wd
finished_run g v es ws ls fs ld wd h es' ws' ls' f none = record {
  small = h.small;
  short = h.short;
  in_limit = h.in_limit;
  flags = h.flags;
  entries_long = f.entries_long ∙ h.entries_long;
  waits_long = f.waits_long ∙ h.waits_long;
  later_long = f.later_long ∙ h.later_long;
  lost_long = h.lost_long;
  losses = h.losses;
  wins = h.wins;
  columns = final_ranks g v.round v.limit h.in_limit none es' (f.entries_long ∙ h.entries_long) (v.round + 1) (omega arith) f.closed.entry;
}

pub none_done : (g : Graph) (n : ℕ) → (j : ℕ) → done_of (replicate n false) j ≡ false
none_done g n j = grind (arith, get_or-replicate, get_or_past, length-replicate)

pub next_run : (g : Graph) → IsGame g → (v : State) (es ws ls : List ℕ) (fs : List Bool) (ld wd : List (List ℕ)) → IsRun g v es ws ls fs ld wd → v.phase ≡ Running
    → (es' ws' ls' : List ℕ) → Falls g v es ws ls es' ws' ls' fs → v.round ≢ v.limit → (posted : List Bool) → posted ≡ replicate (blocks_of g.size) false
    → IsRun g (record v { round = v.round + 1; posted = posted }) es' ws' ls' fs ld wd
next_run g law v es ws ls fs ld wd h e es' ws' ls' f ne posted is = record {
  small = h.small;
  short = h.short;
  in_limit = let le = h.in_limit in omega arith;
  flags = ap length is ∙ length-replicate (blocks_of g.size) false;
  entries_long = f.entries_long ∙ h.entries_long;
  waits_long = f.waits_long ∙ h.waits_long;
  later_long = f.later_long ∙ h.later_long;
  lost_long = h.lost_long;
  losses = h.losses;
  wins = h.wins;
  columns = at_phase g Running v.phase v.limit (v.round + 1) posted es' ws' ls' fs (sym e) (
    next_round g law v.round (done_of v.posted) (done_of posted) (all_done g v.posted h.flags f.all) (λ j node. ap (λ p. done_of p j) is ∙ none_done g (blocks_of g.size) j)
        es' ws' (v.round + 1) (omega arith) f.hold,
    f.closed.exits,
  );
}

-- what a close finds
module _ (g : Graph) (law : IsGame g) (v : State) (es ws ls : List ℕ) (fs : List Bool) (ld wd : List (List ℕ)) (h : IsRun g v es ws ls fs ld wd) (es' ws' ls' : List ℕ) (f : Falls g v es ws ls es' ws' ls' fs) where
  pub found_open : (i : ℕ) × IsTrue (is_open_at (v.round + 1) es' ws' ls' fs i) → SomeAbove g v.round
  found_open is = some_above g law v.round (done_of v.posted) (all_done g v.posted h.flags f.all) es' ws' ls' fs (v.round + 1) (omega arith) f.closed is.0 is.1

  pub found_shut : ((i : ℕ) → i < length es' → IsFalse (is_open_at (v.round + 1) es' ws' ls' fs i)) → NoneAbove g v.round
  found_shut shut =
      none_open g law v.round (done_of v.posted) (all_done g v.posted h.flags f.all) es' ws' ls' fs (v.round + 1) (omega arith) f.closed
      (λ i lt. shut i (let entries = f.entries_long in let size = h.entries_long in omega arith))

pub due_waited : (g : Graph) (v : State) (es ws ls : List ℕ) (fs : List Bool) (ld wd : List (List ℕ)) → IsRun g v es ws ls fs ld wd → v.phase ≡ Running
    → (i : ℕ) → count_of i (slice_index_or wd v.round []) ≤ slice_index ws i
due_waited g v es ws ls fs ld wd h e i =
    let before = amid_of g v es ws ls fs ld wd h e in
    let w = before.0.waiting i in
    let le = won_exits_waited g v.round (done_of v.posted) (slice_index_or wd v.round []) (h.wins v.round) i in
    omega arith

pub due_counted : (g : Graph) (v : State) (es ws ls : List ℕ) (fs : List Bool) (ld wd : List (List ℕ)) → IsRun g v es ws ls fs ld wd → v.phase ≡ Running
    → (i : ℕ) → count_of i (slice_index_or wd v.round []) ≤ slice_index ls i
due_counted g v es ws ls fs ld wd h e i =
    let before = amid_of g v es ws ls fs ld wd h e in
    let w = before.1.wins i in
    let le = later_next g v.round (slice_index_or wd v.round []) (h.wins v.round) i in
    omega arith
