-- The columns as a run begins.
use Rattle.std.proofs.Common.{◌≡◌, ℕ, ◌+◌, ◌<◌, ◌≤◌, ◌^◌, Bool, true, false, cond, not, ◌&&◌, eqb, ltb, List, [], ◌∷◌}
use Rattle.std.proofs.Common.{◌++◌, length, slice_index, slice_index_or, get_or, take, refl, sym, ap, ap₂, ◌∙◌, inl}
use Rattle.std.proofs.Common.{inr, arith, count_by, replicate}
use Rattle.egt_graph.specs.Prelude.{list_any, cases_eq, cases_lt, and_left, is_empty, IsFilled, outs, count_of, entry_at}
use Rattle.egt_graph.specs.Prelude.{cases_Bool, or_from, get_or_push, get_or_past, length_push, sum_by_more, is_win_from}
use Rattle.egt_graph.specs.Prelude.{eq-eqb, IsBegun, decided, later_at, is_loss, waits_at, done_of, is_node, Running}
use Rattle.egt_graph.specs.Prelude.{ne_eqb, le-ltb, Graph, leaves, Amid, Await, Exit, IsRun}
use Rattle.egt_graph.specs.Prelude.{and_right, Adds, has_moves, is_win_of, is_loss_of, is_winning, blocks_of, IsSchedule}
use Rattle.egt_graph.specs.Prelude.{get_or_append_left, length-replicate, is_lost_before, is_won_before, mated_within}
use Rattle.egt_graph.proofs.Lists.{all_count, count_by-cons}
use Rattle.egt_graph.proofs.Holding.{decided_none}
use Rattle.egt_graph.proofs.Nodes.{outs_none, leaves_none}
use Rattle.egt_graph.proofs.Closing.{entry_none}
use Rattle.egt_graph.proofs.Running.{none_done}

-- ---- exits under their numbers

add_up : (a b c x y z : ℕ) → b ≡ a + x → c ≡ b + y → z ≡ x + y → c ≡ a + z
add_up a b c x y z p q r = omega arith

count_one : (p : Exit → Bool) (x : Exit) → count_by p (x ∷ []) ≡ cond (p x) 1 0
count_one p x = let e = count_by-cons p x [] in omega arith

pub Adds_more : (test : ℕ → Exit → Bool) (a b c : List (List ℕ)) (node : ℕ) (exits : List Exit) (k : ℕ) (x : Exit) → Adds test a b node (take k exits)
    → Adds test b c node (x ∷ []) → k < length exits → x ≡ get_or exits k x → Adds test a c node (take (k + 1) exits)
Adds_more test a b c node exits k x p q lt is n i =
    add_up (count_of i (slice_index_or a n [])) _ _ _ _ _ (p n i) (q n i) both
  where
    more : count_by (test n) (take (k + 1) exits) ≡ count_by (test n) (take k exits) + count_by (test n) (x ∷ [])
    more = sum_by_more (λ e. cond (test n e) 1 0) exits k x lt ∙ ap (λ e. count_by (test n) (take k exits) + cond (test n e) 1 0) (sym is)
        ∙ ap (λ m. count_by (test n) (take k exits) + m) (sym (count_one (test n) x))

    both : cond (eqb node i) (count_by (test n) (take (k + 1) exits)) 0 ≡ cond (eqb node i) (count_by (test n) (take k exits)) 0 + cond (eqb node i) (count_by (test n) (x ∷ [])) 0
    both = elim (cases_Bool (eqb node i)) [ inl t ↦ rw t more | inr f ↦ rw f refl ]

pub Filled_more : (g : Graph) (test : ℕ → Exit → Bool) (m : ℕ) (a b : List (List ℕ)) → IsFilled g test m a → Adds test a b m (leaves g m) → IsFilled g test (m + 1) b
Filled_more g test m a b h adds = record {
  before = λ n i lt. elim (cases_eq m i) [
    | inl e ↦
        let p = adds n i ∙ ap (λ t. count_of i (slice_index_or a n []) + cond t (count_by (test n) (leaves g m)) 0) (eq-eqb m i e) in
        let z = h.after n i (omega arith) in
        let q = ap (λ k. count_by (test n) (leaves g k)) e in
        omega arith
    | inr ne ↦
        let p = adds n i ∙ ap (λ t. count_of i (slice_index_or a n []) + cond t (count_by (test n) (leaves g m)) 0) (ne_eqb m i ne) in
        let z = h.before n i (omega arith) in
        omega arith
  ];
  after = λ n i le.
      let p = adds n i ∙ ap (λ t. count_of i (slice_index_or a n []) + cond t (count_by (test n) (leaves g m)) 0) (ne_eqb m i (λ e. absurd (omega arith))) in
      let z = h.after n i (omega arith) in
      omega arith;
}

-- ---- one node more

pub pushed : {A : Type 0} (d : A) (f : ℕ → A) (xs : List A) (m : ℕ) (x : A) → length xs ≡ m → ((i : ℕ) → i < m → get_or xs i d ≡ f i) → x ≡ f m
    → (i : ℕ) → i < m + 1 → get_or (xs ++ x ∷ []) i d ≡ f i
pushed d f xs m x long each is i lt = elim (cases_eq i m) [
  | inl e ↦ rw e (get_or_push xs x d m long ∙ is)
  | inr ne ↦ get_or_append_left xs (x ∷ []) d i (omega arith) ∙ each i (omega arith)
]

pub Begun_more : (g : Graph) (m : ℕ) (es ws ls : List ℕ) (fs : List Bool) (ld wd : List (List ℕ)) → IsBegun g m es ws ls fs ld wd
    → (e w l : ℕ) (f : Bool) (ld' wd' : List (List ℕ)) → e ≡ entry_at g 0 m → w ≡ length (outs g m) + length (leaves g m) → l ≡ later_at g 0 m → f ≡ list_any is_loss (leaves g m)
    → Adds is_loss_of ld ld' m (leaves g m) → Adds is_win_of wd wd' m (leaves g m)
    → IsBegun g (m + 1) (es ++ e ∷ []) (ws ++ w ∷ []) (ls ++ l ∷ []) (fs ++ f ∷ []) ld' wd'
Begun_more g m es ws ls fs ld wd h e w l f ld' wd' p q r s t u = record {
  entries_long = length_push es e ∙ ap (λ n. n + 1) h.entries_long;
  waits_long = length_push ws w ∙ ap (λ n. n + 1) h.waits_long;
  later_long = length_push ls l ∙ ap (λ n. n + 1) h.later_long;
  lost_long = length_push fs f ∙ ap (λ n. n + 1) h.lost_long;
  entry = pushed 0 (entry_at g 0) es m e h.entries_long h.entry p;
  waiting = pushed 0 (λ i. length (outs g i) + length (leaves g i)) ws m w h.waits_long h.waiting q;
  wins = pushed 0 (later_at g 0) ls m l h.later_long h.wins r;
  losses = pushed false (λ i. list_any is_loss (leaves g i)) fs m f h.lost_long h.losses s;
  lost_exits = Filled_more g is_loss_of m ld ld' h.lost_exits t;
  won_exits = Filled_more g is_win_of m wd wd' h.won_exits u;
}

-- ---- the columns of round 0

none_passes : {X : Type 0} (p : X → Bool) → ((x : X) → p x ≡ false) → (xs : List X) → list_any p xs ≡ false
none_passes p e [] = refl
none_passes p e (x ∷ xs) = or_from _ _ (e x) (none_passes p e xs)

not_lost_yet : (e : Exit) → is_lost_before 0 e ≡ false
not_lost_yet e = grind (arith, le-ltb)

not_won_yet : (e : Exit) → not (is_won_before 0 e) ≡ true
not_won_yet e = grind (arith, not, le-ltb)

some_wait : {X Y : Type 0} (xs : List X) (ys : List Y) → (not (is_empty xs && is_empty ys) && eqb (length xs + length ys) 0) ≡ false
some_wait xs ys = grind (arith, ne_eqb)

pub outside : (g : Graph) (i : ℕ) → g.size ≤ i → is_node g i ≡ false
outside g i le = and_left (ltb i g.size) (not (g.void i)) (le-ltb i g.size le)

-- a column that holds a value of each place, and of none past the nodes, holds it at every number
pub at_every : {A : Type 0} (g : Graph) (d : A) (f : ℕ → A) (xs : List A) → length xs ≡ g.size → ((i : ℕ) → i < g.size → get_or xs i d ≡ f i)
    → ((i : ℕ) → is_node g i ≡ false → f i ≡ d) → (i : ℕ) → get_or xs i d ≡ f i
at_every g d f xs long each none i = grind (arith, get_or_past, outside)

begun_waits : (g : Graph) (done : ℕ → Bool) (i : ℕ) → waits_at g 0 done 0 i ≡ length (outs g i) + length (leaves g i)
begun_waits g done i = ap₂ (λ a b. a + b) (all_count _ (λ x. refl) (outs g i)) (all_count _ not_won_yet (leaves g i))

begun_winning : (g : Graph) (done : ℕ → Bool) → ((j : ℕ) → done j ≡ false) → (i : ℕ) → is_winning g 0 done 0 i ≡ false
begun_winning g done none i = or_from _ _ (none_passes _ (λ x. and_right (mated_within g 0 x) (done x) (none x)) (outs g i)) (none_passes _ not_lost_yet (leaves g i))

pub begun_amid : (g : Graph) (es ws ls : List ℕ) (fs : List Bool) (ld wd : List (List ℕ)) → IsBegun g g.size es ws ls fs ld wd
    → (done : ℕ → Bool) → ((j : ℕ) → done j ≡ false) → Amid g 0 done 0 0 es ws
begun_amid g es ws ls fs ld wd h done none = record { entry = entry; waiting = waiting }
  where
    waiting : (i : ℕ) → slice_index ws i ≡ waits_at g 0 done 0 i
    waiting i = at_every g 0 (λ k. length (outs g k) + length (leaves g k)) ws h.waits_long h.waiting
        (λ k none. ap₂ (λ (a : List ℕ) (b : List Exit). length a + length b) (outs_none g k none) (leaves_none g k none)) i
        ∙ sym (begun_waits g done i)

    base : (i : ℕ) → slice_index es i ≡ entry_at g 0 i
    base = at_every g 0 (entry_at g 0) es h.entries_long h.entry (entry_none g 0)

    entry : (i : ℕ) → slice_index es i ≡ decided (entry_at g 0 i) (is_winning g 0 done 0 i) (has_moves g i && eqb (waits_at g 0 done 0 i) 0) (0 + 1)
    entry i =
        base i ∙ decided_none (entry_at g 0 i) (0 + 1)
        ∙ ap₂ (λ w l. decided (entry_at g 0 i) w l (0 + 1)) (sym (begun_winning g done none i))
        (sym (ap (λ k. has_moves g i && eqb k 0) (begun_waits g done i) ∙ some_wait (outs g i) (leaves g i)))

pub begun_await : (g : Graph) (es ws ls : List ℕ) (fs : List Bool) (ld wd : List (List ℕ)) → IsBegun g g.size es ws ls fs ld wd → Await g 0 ls fs
begun_await g es ws ls fs ld wd h = record {
  wins = at_every g 0 (later_at g 0) ls h.later_long h.wins (λ i none. ap (count_by (is_win_from 0)) (leaves_none g i none));
  losses = at_every g false (λ i. list_any is_loss (leaves g i)) fs h.lost_long h.losses (λ i none. ap (list_any is_loss) (leaves_none g i none));
}

pub begun_schedule : (g : Graph) (test : ℕ → Exit → Bool) (rounds : List (List ℕ)) → IsFilled g test g.size rounds → IsSchedule g test rounds
begun_schedule g test rounds h n i = elim (cases_lt i g.size) [
  | inl lt ↦ h.before n i lt
  | inr le ↦ h.after n i le ∙ sym (ap (count_by (test n)) (leaves_none g i (outside g i le)))
]

pub begun_run : (g : Graph) (limit : ℕ) (posted : List Bool) (es ws ls : List ℕ) (fs : List Bool) (ld wd : List (List ℕ)) → IsBegun g g.size es ws ls fs ld wd
    → g.size < 2 ^ 32 → limit ≤ 32000 → posted ≡ replicate (blocks_of g.size) false
    → IsRun g (record { limit = limit; round = 0; phase = Running; posted = posted }) es ws ls fs ld wd
begun_run g limit posted es ws ls fs ld wd h small short is = record {
  small = small;
  short = short;
  in_limit = omega arith;
  flags = ap length is ∙ length-replicate (blocks_of g.size) false;
  entries_long = h.entries_long;
  waits_long = h.waits_long;
  later_long = h.later_long;
  lost_long = h.lost_long;
  losses = begun_schedule g is_loss_of ld h.lost_exits;
  wins = begun_schedule g is_win_of wd h.won_exits;
  columns = (begun_amid g es ws ls fs ld wd h (done_of posted) (λ j. ap (λ p. done_of p j) is ∙ none_done g (blocks_of g.size) j), begun_await g es ws ls fs ld wd h);
}
