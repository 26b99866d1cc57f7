-- Any list of events.
use Rattle.std.proofs.Common.{◌≡◌, ℕ, zero, suc, ◌+◌, ◌<◌, Bool, true, false, cond, not, ◌&&◌, ◌||◌, eqb, List, [], ◌∷◌}
use Rattle.std.proofs.Common.{◌++◌, length, slice_index_or, set, refl, sym, ap, ap₂, subst, ◌∙◌, inl, inr, ◌⊎◌, arith}
use Rattle.std.proofs.Common.{count_by}
use Rattle.egt_graph.specs.Prelude.{list_any, list_all, cases_eq, cases_order, eq-eqb, ne_eqb, both_ways, or_left}
use Rattle.egt_graph.specs.Prelude.{true≢false, length-set, length-replicate, get_or-replicate, get_or-set_same}
use Rattle.egt_graph.specs.Prelude.{get_or-set_other, Graph, IsNode, IsGame, IsAlike, AreRanks, SomeAbove, NoneAbove}
use Rattle.egt_graph.specs.Prelude.{mated_within, mates_within, mated_before, mates_before, decided_within, is_empty}
use Rattle.egt_graph.specs.Prelude.{is_lost_before, is_won_before, HasRank, blocks_of, front, State, begun, listed}
use Rattle.egt_graph.specs.Prelude.{is_posted_in, none_posted, ClosesIn, ClosesRunning, Event, Expanded, Received}
use Rattle.egt_graph.specs.Prelude.{Closed, Steps, Runs, is_next, is_end, ticked_by, ticked_after, phase_by}
use Rattle.egt_graph.specs.Prelude.{phase_after, is_running, AfterEvents, EventsLeave, EachRoundIsOfItsRank}
use Rattle.egt_graph.specs.Prelude.{FinishedRunsAgree, Phase, Posted, Repeat, Stale, Close, Exit, Win, Loss, Draw}
use Rattle.egt_graph.specs.declared.answer.Phase.TheVariants.{Running, Finished as IsOver, TooDeep as IsPastLimit}
use Rattle.egt_graph.specs.declared.answer.Close.TheVariants.{Next, Finished, NotAll, TooDeep}
use Rattle.egt_graph.proofs.Lists.{count_by-cons, any_same_on, all_same_on}
use Rattle.egt_graph.proofs.Ranking.{same_ranks}

-- what holds of every state that events lead to
record Sound (g : Graph) (limit : ℕ) (v : State) : Type 0 where
  limited : v.limit ≡ limit
  long : length v.posted ≡ blocks_of g.size
  reached : (n : ℕ) → n < v.round → SomeAbove g n
  finished : v.phase ≡ IsOver → NoneAbove g v.round
  too_deep : v.phase ≡ IsPastLimit → SomeAbove g limit

-- what one event does
record Stepped (g : Graph) (limit : ℕ) (v : State) (event : Event) (w : State) : Type 0 where
  sound : Sound g limit w
  round : w.round ≡ v.round + cond (is_next event) 1 0
  phase : w.phase ≡ phase_by v.phase event
  running : is_running w.phase ≡ (is_running v.phase && not (is_end event))
  ticks : (b : ℕ) → b < blocks_of g.size → is_running w.phase ≡ true → slice_index_or w.posted b false ≡ ticked_by b (slice_index_or v.posted b false) event

stays_running : (b c : Bool) → c ≡ false → b ≡ (b && not c)
stays_running b c e = grind (arith, not)

over_stays : (b c : Bool) → b ≡ false → b ≡ (b && c)
over_stays b c e = e ∙ sym (ap (λ x. x && c) e)

-- nothing changes
stays : (g : Graph) (limit : ℕ) (v w : State) (event : Event) → Sound g limit v → w ≡ v → is_next event ≡ false → v.phase ≡ phase_by v.phase event
    → is_running v.phase ≡ (is_running v.phase && not (is_end event)) → ((b : ℕ) (flag : Bool) → ticked_by b flag event ≡ flag) → Stepped g limit v event w
stays g limit v w event s e next phase running ticks = grind arith

ticked : (flags : List Bool) (block b : ℕ) → b < length flags → slice_index_or (set flags block true) b false ≡ (eqb block b || slice_index_or flags b false)
ticked flags block b lt = elim (cases_eq block b) [
  | inl e ↦ ap (λ k. slice_index_or (set flags k true) b false) e ∙ get_or-set_same flags b true false lt ∙ sym (or_left _ _ (eq-eqb block b e))
  | inr ne ↦ get_or-set_other flags block b true false (λ e. ne (sym e)) ∙ sym (ap (λ x. x || slice_index_or flags b false) (ne_eqb block b ne))
]

step_posted : (g : Graph) (limit : ℕ) (v w : State) (round block : ℕ) (nodes : List ℕ) → Sound g limit v → w ≡ record v { posted = set v.posted block true }
    → Stepped g limit v (Received round block nodes Posted) w
step_posted g limit v w round block nodes s e = grind (arith, length-set, stays_running, ticked)

step_next : (g : Graph) (limit : ℕ) (v w : State) → Sound g limit v → v.phase ≡ Running → SomeAbove g v.round
    → w ≡ record v { round = v.round + 1; posted = none_posted g } → Stepped g limit v (Closed Next) w
step_next g limit v w s run some e = rw e (record {
  sound = record {
    limited = s.limited;
    long = length-replicate (blocks_of g.size) false;
    reached = λ n lt. elim (cases_eq n v.round) [ inl q ↦ let Q : ℕ → Type 0 = λ m. SomeAbove g m in subst Q (sym q) some | inr ne ↦ s.reached n (omega arith) ];
    finished = λ q. absurd (true≢false (ap is_running (sym run ∙ q)));
    too_deep = λ q. absurd (true≢false (ap is_running (sym run ∙ q)));
  };
  round = refl;
  phase = refl;
  running = stays_running (is_running v.phase) false refl;
  ticks = λ b lt r. get_or-replicate (blocks_of g.size) b false false lt;
})

-- a run that has ended goes on no more
no_more : (b : Bool) → false ≡ (b && false)
no_more b = grind arith

step_finished : (g : Graph) (limit : ℕ) (v w : State) → Sound g limit v → NoneAbove g v.round → w ≡ record v { phase = IsOver } → Stepped g limit v (Closed Finished) w
step_finished g limit v w s none e = grind (arith, no_more)

step_past : (g : Graph) (limit : ℕ) (v w : State) → Sound g limit v → SomeAbove g v.round → v.round ≡ v.limit → w ≡ record v { phase = IsPastLimit } → Stepped g limit v (Closed TooDeep) w
step_past g limit v w s some h e = grind (arith, no_more)

step_close_running : (g : Graph) (limit : ℕ) (v w : State) (answer : Close) → Sound g limit v → v.phase ≡ Running → ClosesRunning g v answer w → Stepped g limit v (Closed answer) w
step_close_running g limit v w NotAll s run h = stays g limit v w (Closed NotAll) s h.1 refl refl (stays_running (is_running v.phase) false refl) (λ b flag. refl)
step_close_running g limit v w Finished s run h = step_finished g limit v w s h.1 h.2
step_close_running g limit v w TooDeep s run h = step_past g limit v w s h.1 h.2 h.3
step_close_running g limit v w Next s run h = step_next g limit v w s run h.1 h.3

step_close_over : (g : Graph) (limit : ℕ) (v w : State) (answer : Close) → Sound g limit v → is_running v.phase ≡ false → (answer ≡ Finished) ⊎ (answer ≡ TooDeep) → v.phase ≡ phase_by v.phase (Closed answer) → w ≡ v
    → Stepped g limit v (Closed answer) w
step_close_over g limit v w answer s over a same e = grind (arith, stays, over_stays)

step_close : (g : Graph) (limit : ℕ) (v w : State) (answer : Close) → Sound g limit v → (p : Phase) → v.phase ≡ p → ClosesIn p g v answer w → Stepped g limit v (Closed answer) w
step_close g limit v w answer s Running e h = step_close_running g limit v w answer s e h
step_close g limit v w answer s IsOver e h = step_close_over g limit v w answer s (ap is_running e) (inl h.0) (e ∙ sym (ap (λ a. phase_by v.phase (Closed a)) h.0)) h.1
step_close g limit v w answer s IsPastLimit e h = step_close_over g limit v w answer s (ap is_running e) (inr h.0) (e ∙ sym (ap (λ a. phase_by v.phase (Closed a)) h.0)) h.1

step : (g : Graph) (limit : ℕ) (v w : State) (event : Event) → Sound g limit v → Steps g v event w → Stepped g limit v event w
step g limit v w (Expanded block nodes) s h = stays g limit v w (Expanded block nodes) s h.1 refl refl (stays_running (is_running v.phase) false refl) (λ b flag. refl)
step g limit v w (Received round block nodes Posted) s h = step_posted g limit v w round block nodes s h.2
step g limit v w (Received round block nodes Repeat) s h = stays g limit v w (Received round block nodes Repeat) s h.2 refl refl (stays_running (is_running v.phase) false refl) (λ b flag. refl)
step g limit v w (Received round block nodes Stale) s h = stays g limit v w (Received round block nodes Stale) s h.1 refl refl (stays_running (is_running v.phase) false refl) (λ b flag. refl)
step g limit v w (Closed answer) s h = step_close g limit v w answer s v.phase refl h

-- what a list of events does
record Went (g : Graph) (limit : ℕ) (v : State) (events : List Event) (w : State) : Type 0 where
  sound : Sound g limit w
  round : w.round ≡ v.round + count_by is_next events
  phase : w.phase ≡ phase_after v.phase events
  running : is_running w.phase ≡ (is_running v.phase && not (list_any is_end events))
  ticks : (b : ℕ) → b < blocks_of g.size → is_running w.phase ≡ true → slice_index_or w.posted b false ≡ ticked_after b (slice_index_or v.posted b false) events

and_group : (a b c : Bool) → ((a && not b) && not c) ≡ (a && not (b || c))
and_group a b c = grind arith

still : (a b : Bool) → (a && b) ≡ true → a ≡ true
still a b h = grind arith

plus_nothing : (a : ℕ) → a ≡ a + 0
plus_nothing a = omega arith

went : (g : Graph) (limit : ℕ) (v w : State) (events : List Event) → Sound g limit v → Runs g v events w → Went g limit v events w
went g limit v w [] s e = rw e (record { sound = s; round = plus_nothing v.round; phase = refl; running = stays_running (is_running v.phase) false refl; ticks = λ b lt r. refl })
went g limit v w (event ∷ events) s h =
    let a = step g limit v h.0 event s h.1 in
    let b = went g limit h.0 w events a.sound h.2 in
    record {
      sound = b.sound;
      round = let c = count_by-cons is_next event events in let p = a.round in let q = b.round in omega arith;
      phase = b.phase ∙ ap (λ p. phase_after p events) a.phase;
      running = b.running ∙ ap (λ x. x && not (list_any is_end events)) a.running ∙ and_group (is_running v.phase) (is_end event) (list_any is_end events);
      ticks = λ k lt r. b.ticks k lt r ∙ ap (λ f. ticked_after k f events) (a.ticks k lt (still (is_running h.0.phase) _ (sym b.running ∙ r)));
    }

sound_begun : (g : Graph) (limit : ℕ) → Sound g limit (begun g limit)
sound_begun g limit = grind (arith, length-replicate, true≢false)

-- a run goes on exactly where no event was its end
ended : (running end : Bool) → running ≡ not end → running ≡ false → end ≡ true
ended running end is f = grind arith

going : (running end : Bool) → running ≡ not end → running ≡ true → end ≡ false
going running end is t = grind arith

posted_while : (g : Graph) (limit : ℕ) (events : List Event) (v : State) → Went g limit (begun g limit) events v → (b : ℕ) → b < blocks_of g.size
    → (p : Phase) → v.phase ≡ p → is_posted_in p v.posted b ≡ (list_any is_end events || ticked_after b false events)
posted_while g limit events v h b lt h7 e = grind (arith, is_running, ticked_after, get_or-replicate, blocks_of, going, or_left, ended)

pub events_leave : EventsLeave
events_leave g limit events v runs =
    let h = went g limit (begun g limit) v events (sound_begun g limit) runs in
    record {
      limited = h.sound.limited;
      round = h.round ∙ zero_plus (count_by is_next events);
      phase = h.phase;
      running = h.running;
      posted = λ b lt. posted_while g limit events v h b lt v.phase refl;
      reached = h.sound.reached;
      finished = h.sound.finished;
      too_deep = h.sound.too_deep;
    }
  where
    zero_plus : (n : ℕ) → 0 + n ≡ n
    zero_plus n = omega arith

split_runs : (g : Graph) (v w : State) (xs ys : List Event) → Runs g v (xs ++ ys) w → (u : State) × Runs g v xs u × Runs g u ys w
split_runs g v w [] ys h = (v, refl, h)
split_runs g v w (x ∷ xs) ys h = let s = split_runs g h.0 w xs ys h.2 in (s.0, (h.0, h.1, s.1), s.2)

pub each_round_is_of_its_rank : EachRoundIsOfItsRank
each_round_is_of_its_rank g limit before after block nodes v runs =
    let s = split_runs g (begun g limit) v before (Expanded block nodes ∷ after) runs in
    let h = events_leave g limit before s.0 s.1 in
    go s.0 h s.2.1.0 s.0.phase refl
  where
    go : (u : State) → AfterEvents g limit before u → nodes ≡ listed g u block → (p : Phase) → u.phase ≡ p
        → ((list_any is_end before ≡ false) × (nodes ≡ front g (count_by is_next before) block)) ⊎ ((list_any is_end before ≡ true) × (nodes ≡ []))
    go u h is p e = grind (arith, going, front, ended)

-- ---- games whose calls all answer alike

alike_node : (g h : Graph) → IsAlike g h → (i : ℕ) → IsNode g i → IsNode h i
alike_node g h a i node = grind arith

alike_back : (g h : Graph) → IsAlike g h → (i : ℕ) → IsNode h i → IsNode g i
alike_back g h a i node = grind arith

alike_within : (g h : Graph) → IsGame g → IsAlike g h → (n i : ℕ) → IsNode g i → (mates_within g n i ≡ mates_within h n i) × (mated_within g n i ≡ mated_within h n i)
alike_within g h law a zero i node = (refl, a.mated i node)
alike_within g h law a (suc n) i node = (
  ap₂ (λ x y. x || y)
      (any_same_on (IsNode g) (mated_within g n) (mated_within h n) (λ j q. (alike_within g h law a n j q).1) (g.out i) (law.out_nodes i node) ∙ ap (list_any (mated_within h n)) (a.out i node))
      (ap (list_any (is_lost_before (suc n))) (a.exits i node)),
  ap₂ (λ x y. x || y) (a.mated i node)
      (ap₂ (λ x y. x && y)
      (ap₂ (λ x y. not (is_empty x && is_empty y)) (a.out i node) (a.exits i node))
      (ap₂ (λ x y. x && y)
      (all_same_on (IsNode g) (mates_within g n) (mates_within h n) (λ j q. (alike_within g h law a n j q).0) (g.out i) (law.out_nodes i node) ∙ ap (list_all (mates_within h n)) (a.out i node))
      (ap (list_all (is_won_before (suc n))) (a.exits i node)))),
)

alike_decided : (g h : Graph) → IsGame g → IsAlike g h → (n i : ℕ) → IsNode g i → decided_within g n i ≡ decided_within h n i
alike_decided g h law a n i node = let w = alike_within g h law a n i node in ap₂ (λ x y. x || y) w.0 w.1

alike_before : (g h : Graph) → IsGame g → IsAlike g h → (n i : ℕ) → IsNode g i
    → (mates_before g n i ≡ mates_before h n i) × (mated_before g n i ≡ mated_before h n i)
alike_before g h law a zero i node = (refl, refl)
alike_before g h law a (suc n) i node = alike_within g h law a n i node

alike_rank : (g h : Graph) → IsGame g → IsAlike g h → (i : ℕ) → IsNode g i → (v : Exit) → HasRank h i v → HasRank g i v
alike_rank g h law a i node (Win n) r = ((alike_within g h law a n i node).0 ∙ r.0, (alike_before g h law a n i node).0 ∙ r.1)
alike_rank g h law a i node (Loss n) r = ((alike_within g h law a n i node).1 ∙ r.0, (alike_before g h law a n i node).1 ∙ r.1)
alike_rank g h law a i node Draw r = λ n. ((alike_within g h law a n i node).0 ∙ (r n).0, (alike_within g h law a n i node).1 ∙ (r n).1)

pub alike_ranks : (g h : Graph) → IsGame g → IsAlike g h → (limit : ℕ) (entries : List ℕ) → AreRanks h limit entries → AreRanks g limit entries
alike_ranks g h law a limit entries r = record {
  all = r.all ∙ sym a.size;
  voids = λ i lt v. let e = a.size in r.voids i (omega arith) (sym (a.void i lt) ∙ v);
  ranks = λ i node.
      let p = r.ranks i (alike_node g h a i node) in
      (p.0, alike_rank g h law a i node p.0 p.1, p.2, p.3);
}

-- a game that is over after round n has no round above n
over_first : (g h : Graph) → IsGame g → IsAlike g h → (n : ℕ) → NoneAbove g n → SomeAbove h n → ⊥
over_first g h law a n none some =
    let node = alike_back g h a some.0 some.1 in
    both_ways _ (alike_decided g h law a n some.0 node ∙ some.3) (none some.0 node some.2.0 (alike_decided g h law a some.2.0 some.0 node ∙ some.2.1))

over_second : (g h : Graph) → IsGame g → IsAlike g h → (n : ℕ) → NoneAbove h n → SomeAbove g n → ⊥
over_second g h law a n none some =
    both_ways _ (sym (alike_decided g h law a n some.0 some.1) ∙ some.3)
    (none some.0 (alike_node g h a some.0 some.1) some.2.0 (sym (alike_decided g h law a some.2.0 some.0 some.1) ∙ some.2.1))

pub finished_runs_agree : FinishedRunsAgree
finished_runs_agree g h law law' alike limit limit' events events' v w runs runs' over over' =
    (rounds, λ n m ranks ranks' p q. same_ranks g law n m ranks ranks' p (alike_ranks g h law alike m ranks' q))
  where
    first : AfterEvents g limit events v
    first = events_leave g limit events v runs

    second : AfterEvents h limit' events' w
    second = events_leave h limit' events' w runs'

    rounds : v.round ≡ w.round
    rounds = elim (cases_order v.round w.round) [
      | inl e ↦ e
      | inr o ↦ elim o [
        | inl lt ↦ absurd (over_first g h law alike v.round (first.finished over) (second.reached v.round lt))
        | inr gt ↦ absurd (over_second g h law alike w.round (second.finished over') (first.reached w.round gt))
      ]
    ]
