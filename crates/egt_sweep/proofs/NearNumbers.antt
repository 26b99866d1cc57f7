-- The numbers of the game of the nearest mates are how far the nearest checkmates are from the positions.
use Rattle.std.proofs.Common.{◌≡◌, ℕ, zero, suc, ◌<◌, ◌≤◌, ◌↔◌, ◌||◌, Bool, true, List, [], ◌∷◌, map, Option, Some}
use Rattle.std.proofs.Common.{None, refl, sym, ap, ◌∙◌, subst, inl, inr, arith}
use Rattle.egt_sweep.specs.Prelude.{⊎_elim, false≢true, ltb-true, lt-ltb, cases_lt, Contains, list_any, AreImages}
use Rattle.egt_sweep.specs.Prelude.{Setup, IsAdmissible, children_of, IsOf, IsIndex, Value, Win, Loss, Draw, SomeMove}
use Rattle.egt_sweep.specs.Prelude.{chess, HasReach, ReachesMateWithin, IsCheckmate, Graph, HasNear, SomeFar}
use Rattle.egt_sweep.specs.Prelude.{is_near_exit, near_within, Exit, Mate, longest, near_entry, near_table, near_tables}
use Rattle.egt_sweep.specs.Prelude.{read, read_shown, Tables, reach_at, HasTrueReachesBelow, entries_or_none}
use Rattle.egt_sweep.specs.Prelude.{SomeReachesFar, GoesOn, Laws, exit_of, exits_at, shown_below, as_win, reach_game}
use Rattle.egt_sweep.proofs.Linked.{node_at}
use Rattle.egt_sweep.proofs.Members.{In, any_in, in_any, either, or_left, or_right}
use Rattle.egt_sweep.proofs.NearEntries.{near_found, near_shown, near_of_entry, slice_near}
use Rattle.egt_sweep.proofs.OutOfClass.{shown_is}
use Rattle.egt_sweep.proofs.GameSteps.{ShowsLeft, Telling, edge_step, exit_step, mated_is, on_index, on_or_off, step_edge, step_exit}

-- what holds of the nearest mates
pub record Reaching : Type 0 where
  pub more : (m n : ℕ) (p : Setup) → m ≤ n → ReachesMateWithin chess m p → ReachesMateWithin chess n p
  pub least : (n : ℕ) (p : Setup) → ReachesMateWithin chess n p → (k : ℕ) × HasReach chess p (Some k) × (k ≤ n)
  pub one : (p : Setup) (x y : Option ℕ) → HasReach chess p x → HasReach chess p y → x ≡ y
  pub images : (p q : Setup) → IsAdmissible p → AreImages p q → (x : Option ℕ) → HasReach chess p x ↔ HasReach chess q x

-- how far the nearest mate is, told as a loss in as many plies, and as a draw where there is none
abbrev pub TellsNear : Setup → Value → Type 0
TellsNear q (Win n) = ⊥
TellsNear q (Loss n) = HasReach chess q (Some n)
TellsNear q Draw = HasReach chess q None

tells_near : (q : Setup) (number : Option ℕ) → HasReach chess q number → TellsNear q (near_of_entry number)
tells_near q (Some n) h = h
tells_near q None h = h

module _ (reaching : Reaching) where
  telling : Telling TellsNear
  telling = record { images = images }
    where
      images : (p q : Setup) → IsAdmissible p → AreImages p q → (v : Value) → TellsNear p v ↔ TellsNear q v
      images p q ok are (Win n) = (λ h. h, λ h. h)
      images p q ok are (Loss n) = reaching.images p q ok are (Some n)
      images p q ok are Draw = reaching.images p q ok are None

  -- an exit is near exactly where mate is reached in as few plies
  exit_near : (n : ℕ) (q : Setup) (v : Value) → TellsNear q v → (is_near_exit (suc n) (as_win (exit_of Mate v)) ≡ true) ↔ ReachesMateWithin chess n q
  exit_near n q (Win k) h = absurd h
  exit_near n q (Loss k) h = (
    λ t. reaching.more k n q (let lt = ltb-true k (suc n) t in omega (arith, lt)) h.0,
    λ reaches.
        let least = reaching.least n q reaches in
        let same : k ≡ least.0 = (let x : Some k ≡ Some least.0 = reaching.one q (Some k) (Some least.0) h least.1 in cc) in
        lt-ltb k (suc n) (let le = least.2 in omega (arith, same, le)),
  )
  exit_near n q Draw h = (λ t. absurd (false≢true t), λ reaches. absurd (h n reaches))

in_map : (es : List Exit) (e : Exit) → In e (map as_win es) → (x : Exit) × In x es × (e ≡ as_win x)
in_map [] e h = absurd h
in_map (x ∷ es) e (inl same) = (x, inl refl, same)
in_map (x ∷ es) e (inr h) = let found = in_map es e h in (found.0, inr found.1, found.2)

map_in : (es : List Exit) (x : Exit) → In x es → In (as_win x) (map as_win es)
map_in [] x h = absurd h
map_in (y ∷ es) x (inl same) = inl (ap as_win same)
map_in (y ∷ es) x (inr h) = inr (map_in es x h)

module _ (laws : Laws) (reaching : Reaching) (tables : Tables) (c : ℕ) (below : c < 36) (children : HasTrueReachesBelow tables c) where
  near : Tables
  near = near_tables tables

  -- a child's column tells of its positions
  child_shown : (q : Setup) → IsAdmissible q → (d : ℕ) × (turned : Bool) × Contains (children_of c) d × IsOf d turned q → (v : Value) × TellsNear q v × (shown_below near 36 q ≡ v)
  unfolding near
  child_shown q ok (d, turned, child, of) =
      let u = children d child in
      let lt = laws.facts.child_below c d below child in
      let index = laws.facts.some_index q d turned (omega (arith, lt, below)) ok of in
      let told = u.4.true q index.0 ok (subst (λ k. IsIndex k q index.0) (sym u.2) index.1) in
      let shown = shown_is laws (near_tables tables) d index.0 (near_table u.0.class (entries_or_none u.0.reach)) q turned (omega (arith, lt, below)) ok of (near_found tables d u.0 u.1 u.3) index.1 36 (omega (arith, lt, below)) (omega arith) in (
        near_of_entry told.0,
        tells_near q told.0 told.1,
        shown ∙ ap read (slice_near (entries_or_none u.0.reach) index.0) ∙ read_shown (near_entry (reach_at u.0 index.0)) (near_of_entry told.0) (near_shown (reach_at u.0 index.0) told.0 told.2),
      )

  left : ShowsLeft TellsNear (near_tables tables) Mate c
  unfolding near
  left p q m ok of leads off =
      let q_ok = laws.facts.step_admissible p q m ok leads in
      ⊎_elim
      (λ (own : IsOf c of.0 q). absurd (off (laws.facts.some_index q c of.0 below q_ok own)))
      (λ (child : (d : ℕ) × (turned : Bool) × Contains (children_of c) d × IsOf d turned q). child_shown q q_ok child)
      (laws.facts.step_class p q m c of.0 below ok of.1 leads)

  g : Graph
  g = reach_game tables c

  abbrev Agrees : ℕ → Type 0
  Agrees n = (i : ℕ) (p : Setup) → IsAdmissible p → IsIndex c p i → (near_within (reach_game tables c) n i ≡ true) ↔ ReachesMateWithin chess n p

  module _ (n : ℕ) (agrees : Agrees n) (i : ℕ) (p : Setup) (ok : IsAdmissible p) (is : IsIndex c p i) where
    mate_told : (g.mated i ≡ true) ↔ IsCheckmate p
    unfolding g
    mate_told = mated_is laws TellsNear (telling reaching) (near_tables tables) Mate c below left i p ok is

    out : Bool
    out = list_any (near_within (reach_game tables c) n) (g.out i)

    leaving : Bool
    leaving = list_any (is_near_exit (suc n)) (g.exits i)

    reaches_there : near_within (reach_game tables c) (suc n) i ≡ true → ReachesMateWithin chess (suc n) p
    unfolding g out leaving
    reaches_there t = ⊎_elim
        (λ (mated : g.mated i ≡ true). inl (mate_told.0 mated))
        (λ (rest : (out || leaving) ≡ true). inr (⊎_elim
        (λ (some : out ≡ true).
        let h = any_in (near_within (reach_game tables c) n) (g.out i) some in
        let s = edge_step laws TellsNear (telling reaching) (near_tables tables) Mate c below left i h.0 p ok is h.1 in
        (s.to, s.step, (agrees h.0 s.to s.admissible s.index).0 h.2))
        (λ (some : leaving ≡ true).
        let h = any_in (is_near_exit (suc n)) (g.exits i) some in
        let e = in_map (exits_at (near_tables tables) Mate c i) h.0 h.1 in
        let s = exit_step laws TellsNear (telling reaching) (near_tables tables) Mate c below left i e.0 p ok is e.1 in
        (s.to, s.step, (exit_near reaching n s.to s.value s.tells).0 (sym (ap (is_near_exit (suc n)) (e.2 ∙ ap as_win s.is)) ∙ h.2)))
        (either out leaving rest)))
        (either (g.mated i) (out || leaving) t)

    reaches_back : ReachesMateWithin chess (suc n) p → near_within (reach_game tables c) (suc n) i ≡ true
    unfolding g out leaving
    reaches_back reaches = ⊎_elim
        (λ (mate : IsCheckmate p). or_left (g.mated i) (out || leaving) (mate_told.1 mate))
        (λ (step : SomeMove chess p (ReachesMateWithin chess n)). or_right (g.mated i) (out || leaving) (⊎_elim
        (λ (on : GoesOn Mate c p step.1.0 step.0).
        let q_ok = laws.facts.step_admissible p step.0 step.1.0 ok step.1.1 in
        let index = on_index laws TellsNear (telling reaching) (near_tables tables) Mate c below left i p step.0 step.1.0 ok is step.1.1 on in
        let edge = step_edge laws TellsNear (telling reaching) (near_tables tables) Mate c below left i index.0 p step.0 step.1 ok is on index.1 in
        or_left out leaving (in_any (near_within (reach_game tables c) n) (g.out i) index.0 edge ((agrees index.0 step.0 q_ok index.1).1 step.2)))
        (λ (off : ¬ GoesOn Mate c p step.1.0 step.0).
        let exit = step_exit laws TellsNear (telling reaching) (near_tables tables) Mate c below left i p step.0 step.1 ok is off in
        let close = (exit_near reaching n step.0 exit.2.0 exit.2.1).1 step.2 in
        or_right out leaving (in_any (is_near_exit (suc n)) (g.exits i) (as_win exit.0) (map_in (exits_at (near_tables tables) Mate c i) exit.0 exit.1) (ap (λ (e : Exit). is_near_exit (suc n) (as_win e)) exit.2.2 ∙ close)))
        (on_or_off laws TellsNear (telling reaching) (near_tables tables) Mate c below left p step.0 step.1.0 (laws.facts.step_admissible p step.0 step.1.0 ok step.1.1))))
        reaches

  agree : (n : ℕ) → Agrees n
  unfolding g
  agree zero i p ok is = mated_is laws TellsNear (telling reaching) (near_tables tables) Mate c below left i p ok is
  agree (suc n) i p ok is = (reaches_there n (agree n) i p ok is, reaches_back n (agree n) i p ok is)

  pub number_is_reach : (i : ℕ) (p : Setup) (number : Option ℕ) → IsAdmissible p → IsIndex c p i → HasNear (reach_game tables c) i number → HasReach chess p number
  number_is_reach i p (Some zero) ok is h = ((agree 0 i p ok is).0 h.0, tt)
  number_is_reach i p (Some (suc n)) ok is h = ((agree (suc n) i p ok is).0 h.0, λ reaches. false≢true (sym h.1 ∙ (agree n i p ok is).1 reaches))
  number_is_reach i p None ok is h = λ n reaches. false≢true (sym (h n) ∙ (agree n i p ok is).1 reaches)

  -- a node that is too far for an entry has a position that is
  pub far_away : SomeFar (reach_game tables c) → SomeReachesFar c
  far_away (i, node, some, none) =
      let at = node_at laws c i node.not_void in
      let p = at.0 in
      let ok = at.1.spells.admissible in
      let is = at.1.index in
      let own = laws.indexed_class p c i ok is in
      let least = reaching.least some.0 p ((agree some.0 i p ok is).0 some.1) in
      record {
        position = p;
        admissible = ok;
        flipped = own.0;
        of = own.1;
        plies = least.0;
        reach = least.1;
        far = elim (cases_lt longest least.0) [
          | inl lt ↦ lt
          | inr le ↦ absurd (false≢true (sym none ∙ (agree 32000 i p ok is).1 (reaching.more least.0 32000 p le least.1.0)))
        ];
      }
