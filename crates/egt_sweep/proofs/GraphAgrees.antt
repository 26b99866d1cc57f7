-- A notion of winning within so many plies that goes by steps is the one that the graph of a class's game counts by its edges and exits.
use Rattle.std.proofs.Common.{◌≡◌, ℕ, zero, suc, ◌<◌, ◌⊎◌, ◌↔◌, ◌&&◌, not, true, List, [], ◌∷◌, refl, inl, inr}
use Rattle.egt_sweep.specs.Prelude.{⊎_elim, false≢true, and_parts, list_all, list_any, Setup, IsAdmissible, IsIndex}
use Rattle.egt_sweep.specs.Prelude.{Value, HasMove, HasValue, chess, IsCheckmate, Graph, is_empty, is_lost_before}
use Rattle.egt_sweep.specs.Prelude.{is_won_before, has_move, mated_within, mates_within, Exit, Metric, Tables}
use Rattle.egt_sweep.specs.Prelude.{class_game, GoesOn, Laws, exit_of, Plies}
use Rattle.egt_sweep.proofs.Members.{In, all_in, in_all, any_in, in_any, both, either, or_left, or_right}
use Rattle.egt_sweep.proofs.GameSteps.{ShowsLeft, Telling, on_or_off, on_index, edge_step, step_edge, exit_step, step_exit, mated_is}

-- Losing and winning within so many plies go by steps: whoever loses has only steps by which the other wins, and whoever wins has one by
-- which the other loses. By a step that goes on this is so where it is so of the position reached, and by one that leaves the game where
-- the exit tells it.
pub record GoesBySteps (metric : Metric) (c : ℕ) (Loses Wins : ℕ → Setup → Type 0) (LosesBy WinsBy : ℕ → (p q : Setup) → chess.Move p q → Type 0) : Type 0 where
  pub loses_now : (p : Setup) → Loses 0 p ↔ IsCheckmate p
  pub loses : (n : ℕ) (p : Setup) → Loses (suc n) p ↔ (IsCheckmate p ⊎ (HasMove chess p × ((q : Setup) (m : chess.Move p q) → WinsBy n p q m)))
  pub wins_never : (p : Setup) → Wins 0 p → ⊥
  pub wins : (n : ℕ) (p : Setup) → Wins (suc n) p ↔ ((q : Setup) × (m : chess.Move p q) × LosesBy n p q m)
  pub on_wins : (n j : ℕ) (p q : Setup) (m : chess.Move p q) → GoesOn metric c p m.0 q → IsAdmissible q → IsIndex c q j → WinsBy n p q m ↔ Wins n q
  pub on_loses : (n j : ℕ) (p q : Setup) (m : chess.Move p q) → GoesOn metric c p m.0 q → IsAdmissible q → IsIndex c q j → LosesBy n p q m ↔ Loses n q
  pub off_wins : (n : ℕ) (p q : Setup) (m : chess.Move p q) (v : Value) (e : Exit) → ¬ GoesOn metric c p m.0 q → HasValue chess q v → e ≡ exit_of metric v → (is_won_before (suc n) e ≡ true) ↔ WinsBy n p q m
  pub off_loses : (n : ℕ) (p q : Setup) (m : chess.Move p q) (v : Value) (e : Exit) → ¬ GoesOn metric c p m.0 q → HasValue chess q v → e ≡ exit_of metric v → (is_lost_before (suc n) e ≡ true) ↔ LosesBy n p q m

-- values are those of images
values : Plies → Telling (HasValue chess)
values plies = record { images = plies.images }

some_listed : (xs : List ℕ) (ys : List Exit) → not (is_empty xs && is_empty ys) ≡ true → ((j : ℕ) × In j xs) ⊎ ((e : Exit) × In e ys)
some_listed [] [] t = absurd (false≢true t)
some_listed [] (y ∷ ys) t = inr (y, inl refl)
some_listed (x ∷ xs) ys t = inl (x, inl refl)

listed_some : (xs : List ℕ) (ys : List Exit) → ((j : ℕ) × In j xs) ⊎ ((e : Exit) × In e ys) → not (is_empty xs && is_empty ys) ≡ true
listed_some [] [] (inl h) = absurd h.1
listed_some [] [] (inr h) = absurd h.1
listed_some [] (y ∷ ys) h = refl
listed_some (x ∷ xs) ys h = refl

module _ (laws : Laws) (plies : Plies) (tables : Tables) (metric : Metric) (c : ℕ) (below : c < 36) (shows : ShowsLeft (HasValue chess) tables metric c)
    (Loses Wins : ℕ → Setup → Type 0) (LosesBy WinsBy : ℕ → (p q : Setup) → chess.Move p q → Type 0) (by : GoesBySteps metric c Loses Wins LosesBy WinsBy) where
  g : Graph
  g = class_game tables metric c

  abbrev pub Agrees : ℕ → Type 0
  Agrees n = (i : ℕ) (p : Setup) → IsAdmissible p → IsIndex c p i →
      ((mated_within (class_game tables metric c) n i ≡ true) ↔ Loses n p) × ((mates_within (class_game tables metric c) n i ≡ true) ↔ Wins n p)

  module _ (n : ℕ) (agrees : Agrees n) (i : ℕ) (p : Setup) (ok : IsAdmissible p) (is : IsIndex c p i) where
    edge_on : (j : ℕ) → In j (g.out i) → (q : Setup) × (m : chess.Move p q) × ((mates_within g n j ≡ true) ↔ WinsBy n p q m) × ((mated_within g n j ≡ true) ↔ LosesBy n p q m)
    unfolding g
    edge_on j h =
        let s = edge_step laws (HasValue chess) (values plies) tables metric c below shows i j p ok is h in
        let there = agrees j s.to s.admissible s.index in
        let wins = by.on_wins n j p s.to s.step s.on s.admissible s.index in
        let loses = by.on_loses n j p s.to s.step s.on s.admissible s.index in
        (s.to, s.step, (λ t. wins.1 (there.1.0 t), λ w. there.1.1 (wins.0 w)), (λ t. loses.1 (there.0.0 t), λ l. there.0.1 (loses.0 l)))

    exit_off : (e : Exit) → In e (g.exits i) → (q : Setup) × (m : chess.Move p q) × ((is_won_before (suc n) e ≡ true) ↔ WinsBy n p q m) × ((is_lost_before (suc n) e ≡ true) ↔ LosesBy n p q m)
    unfolding g
    exit_off e h =
        let s = exit_step laws (HasValue chess) (values plies) tables metric c below shows i e p ok is h in
        (s.to, s.step, by.off_wins n p s.to s.step s.value e s.off s.tells s.is, by.off_loses n p s.to s.step s.value e s.off s.tells s.is)

    step_on : (q : Setup) (m : chess.Move p q) → GoesOn metric c p m.0 q → (j : ℕ) × In j (g.out i) × ((mates_within g n j ≡ true) ↔ WinsBy n p q m) × ((mated_within g n j ≡ true) ↔ LosesBy n p q m)
    unfolding g
    step_on q m on =
        let q_ok = laws.facts.step_admissible p q m.0 ok m.1 in
        let index = on_index laws (HasValue chess) (values plies) tables metric c below shows i p q m.0 ok is m.1 on in
        let there = agrees index.0 q q_ok index.1 in
        let wins = by.on_wins n index.0 p q m on q_ok index.1 in
        let loses = by.on_loses n index.0 p q m on q_ok index.1 in
        (index.0, step_edge laws (HasValue chess) (values plies) tables metric c below shows i index.0 p q m ok is on index.1, (λ t. wins.1 (there.1.0 t), λ w. there.1.1 (wins.0 w)), (λ t. loses.1 (there.0.0 t), λ l. there.0.1 (loses.0 l)))

    step_off : (q : Setup) (m : chess.Move p q) → ¬ GoesOn metric c p m.0 q → (e : Exit) × In e (g.exits i) × ((is_won_before (suc n) e ≡ true) ↔ WinsBy n p q m) × ((is_lost_before (suc n) e ≡ true) ↔ LosesBy n p q m)
    unfolding g
    step_off q m off =
        let exit = step_exit laws (HasValue chess) (values plies) tables metric c below shows i p q m ok is off in
        (exit.0, exit.1, by.off_wins n p q m exit.2.0 exit.0 off exit.2.1 exit.2.2, by.off_loses n p q m exit.2.0 exit.0 off exit.2.1 exit.2.2)

    told : (q : Setup) (m : chess.Move p q) → GoesOn metric c p m.0 q ⊎ ¬ GoesOn metric c p m.0 q
    told q m = on_or_off laws (HasValue chess) (values plies) tables metric c below shows p q m.0 (laws.facts.step_admissible p q m.0 ok m.1)

    wins_there : mates_within g (suc n) i ≡ true → Wins (suc n) p
    wins_there t = (by.wins n p).1 (⊎_elim
        (λ (some : list_any (mated_within g n) (g.out i) ≡ true).
        let h = any_in (mated_within g n) (g.out i) some in
        let step = edge_on h.0 h.1 in
        (step.0, step.1, step.3.0 h.2))
        (λ (some : list_any (is_lost_before (suc n)) (g.exits i) ≡ true).
        let h = any_in (is_lost_before (suc n)) (g.exits i) some in
        let step = exit_off h.0 h.1 in
        (step.0, step.1, step.3.0 h.2))
        (either (list_any (mated_within g n) (g.out i)) (list_any (is_lost_before (suc n)) (g.exits i)) t))

    wins_back : Wins (suc n) p → mates_within g (suc n) i ≡ true
    wins_back wins =
        let step = (by.wins n p).0 wins in
        ⊎_elim
        (λ (on : GoesOn metric c p step.1.0 step.0).
        let edge = step_on step.0 step.1 on in
        or_left (list_any (mated_within g n) (g.out i)) (list_any (is_lost_before (suc n)) (g.exits i)) (in_any (mated_within g n) (g.out i) edge.0 edge.1 (edge.3.1 step.2)))
        (λ (off : ¬ GoesOn metric c p step.1.0 step.0).
        let exit = step_off step.0 step.1 off in
        or_right (list_any (mated_within g n) (g.out i)) (list_any (is_lost_before (suc n)) (g.exits i)) (in_any (is_lost_before (suc n)) (g.exits i) exit.0 exit.1 (exit.3.1 step.2)))
        (told step.0 step.1)

    each_wins : list_all (mates_within g n) (g.out i) ≡ true → list_all (is_won_before (suc n)) (g.exits i) ≡ true → (q : Setup) (m : chess.Move p q) → WinsBy n p q m
    each_wins out off q m = ⊎_elim
        (λ (on : GoesOn metric c p m.0 q). let edge = step_on q m on in edge.2.0 (all_in (mates_within g n) (g.out i) out edge.0 edge.1))
        (λ (leaves : ¬ GoesOn metric c p m.0 q). let exit = step_off q m leaves in exit.2.0 (all_in (is_won_before (suc n)) (g.exits i) off exit.0 exit.1))
        (told q m)

    some_move : has_move g i ≡ true → HasMove chess p
    some_move t = ⊎_elim
        (λ (h : (j : ℕ) × In j (g.out i)). let step = edge_on h.0 h.1 in (step.0, step.1))
        (λ (h : (e : Exit) × In e (g.exits i)). let step = exit_off h.0 h.1 in (step.0, step.1))
        (some_listed (g.out i) (g.exits i) t)

    move_listed : HasMove chess p → has_move g i ≡ true
    move_listed (q, m) = listed_some (g.out i) (g.exits i) (⊎_elim
        (λ (on : GoesOn metric c p m.0 q). let edge = step_on q m on in inl (edge.0, edge.1))
        (λ (off : ¬ GoesOn metric c p m.0 q). let exit = step_off q m off in inr (exit.0, exit.1))
        (told q m))

    mate_told : (g.mated i ≡ true) ↔ IsCheckmate p
    unfolding g
    mate_told = mated_is laws (HasValue chess) (values plies) tables metric c below shows i p ok is

    loses_there : mated_within g (suc n) i ≡ true → Loses (suc n) p
    loses_there t = (by.loses n p).1 (⊎_elim
        (λ (mated : g.mated i ≡ true). inl (mate_told.0 mated))
        (λ (rest : (has_move g i && (list_all (mates_within g n) (g.out i) && list_all (is_won_before (suc n)) (g.exits i))) ≡ true).
        let parts = and_parts (has_move g i) (list_all (mates_within g n) (g.out i) && list_all (is_won_before (suc n)) (g.exits i)) rest in
        let all = and_parts (list_all (mates_within g n) (g.out i)) (list_all (is_won_before (suc n)) (g.exits i)) parts.1 in
        inr (some_move parts.0, each_wins all.0 all.1))
        (either (g.mated i) (has_move g i && (list_all (mates_within g n) (g.out i) && list_all (is_won_before (suc n)) (g.exits i))) t))

    out_all : ((q : Setup) (m : chess.Move p q) → WinsBy n p q m) → list_all (mates_within g n) (g.out i) ≡ true
    out_all won = in_all (mates_within g n) (g.out i) (λ j h. let step = edge_on j h in step.2.1 (won step.0 step.1))

    off_all : ((q : Setup) (m : chess.Move p q) → WinsBy n p q m) → list_all (is_won_before (suc n)) (g.exits i) ≡ true
    off_all won = in_all (is_won_before (suc n)) (g.exits i) (λ e h. let step = exit_off e h in step.2.1 (won step.0 step.1))

    loses_back : Loses (suc n) p → mated_within g (suc n) i ≡ true
    loses_back loses = ⊎_elim
        (λ (mate : IsCheckmate p). or_left (g.mated i) (has_move g i && (list_all (mates_within g n) (g.out i) && list_all (is_won_before (suc n)) (g.exits i))) (mate_told.1 mate))
        (λ (play : HasMove chess p × ((q : Setup) (m : chess.Move p q) → WinsBy n p q m)).
        or_right (g.mated i) (has_move g i && (list_all (mates_within g n) (g.out i) && list_all (is_won_before (suc n)) (g.exits i)))
        (both (has_move g i) (list_all (mates_within g n) (g.out i) && list_all (is_won_before (suc n)) (g.exits i)) (move_listed play.0)
        (both (list_all (mates_within g n) (g.out i)) (list_all (is_won_before (suc n)) (g.exits i)) (out_all play.1) (off_all play.1))))
        ((by.loses n p).0 loses)

  pub agree : (n : ℕ) → Agrees n
  unfolding g
  agree zero i p ok is =
      let mate = mated_is laws (HasValue chess) (values plies) tables metric c below shows i p ok is in
      let now = by.loses_now p in
      ((λ t. now.1 (mate.0 t), λ l. mate.1 (now.0 l)), (λ t. absurd (false≢true t), λ w. absurd (by.wins_never p w)))
  agree (suc n) i p ok is = ((loses_there n (agree n) i p ok is, loses_back n (agree n) i p ok is), (wins_there n (agree n) i p ok is, wins_back n (agree n) i p ok is))
