-- The edges and the exits of a class's game are the steps of play.
use Rattle.std.proofs.Common.{◌≡◌, ℕ, ◌<◌, ◌⊎◌, ◌↔◌, if◌then◌else◌, Bool, true, false, Option, Some, None, refl, sym}
use Rattle.std.proofs.Common.{ap, ◌∙◌, subst, inl, inr}
use Rattle.egt_sweep.specs.Prelude.{⊎_elim, Spells, IsVoid, Zeroes, played, Metric, Tables, GoesOn, exit_of, exit_by}
use Rattle.egt_sweep.specs.Prelude.{false≢true, tells_so, passing_has, class_game, position_at, exits_from, shown_below}
use Rattle.egt_sweep.specs.Prelude.{tells, Setup, IsOf, Value, chess, Leads, Move, Graph, Exit, Mate, IsAt, Laws}
use Rattle.egt_sweep.specs.Prelude.{tells_where, AreImages, IsAdmissible, decided_checkmate, IsCheckmate, passing_passes}
use Rattle.egt_sweep.specs.Prelude.{IsIndex, size_of, moves_of, Zeroing, Connects, is_mated, connects, goes_on, exits_at}
use Rattle.egt_sweep.proofs.Backward.{image_index}
use Rattle.egt_sweep.proofs.Linked.{position_is, goes_is, connects_is}
use Rattle.egt_sweep.proofs.Members.{In, contains_in, in_contains, in_given, given_in}
use Rattle.egt_sweep.proofs.Staying.{quiet_stays}

-- what is told of positions by values, of images alike
pub record Telling (Tells : Setup → Value → Type 0) : Type 0 where
  pub images : (p q : Setup) → IsAdmissible p → AreImages p q → (v : Value) → Tells p v ↔ Tells q v

-- what the tables show of a position after a move that leaves the game is told of it
abbrev pub ShowsLeft : (Setup → Value → Type 0) → Tables → Metric → ℕ → Type 0
ShowsLeft Tells tables metric c = (p q : Setup) (m : Move) → IsAdmissible p → (flipped : Bool) × IsOf c flipped p → Leads p m q → ¬ GoesOn metric c p m q →
    (v : Value) × Tells q v × (shown_below tables 36 q ≡ v)

-- a step that goes on leads to a position with that index
pub record StepOn (metric : Metric) (c : ℕ) (p : Setup) (j : ℕ) : Type 0 where
  pub to : Setup
  pub step : chess.Move p to
  pub on : GoesOn metric c p step.0 to
  pub admissible : IsAdmissible to
  pub index : IsIndex c to j

-- a step that leaves the game leads to a position of that value
pub record StepOff (Tells : Setup → Value → Type 0) (metric : Metric) (c : ℕ) (p : Setup) (e : Exit) : Type 0 where
  pub to : Setup
  pub step : chess.Move p to
  pub off : ¬ GoesOn metric c p step.0 to
  pub value : Value
  pub tells : Tells to value
  pub is : e ≡ exit_of metric value

module _ (laws : Laws) (Tells : Setup → Value → Type 0) (telling : Telling Tells) (tables : Tables) (metric : Metric) (c : ℕ) (below : c < 36) (shows : ShowsLeft Tells tables metric c) where
  abbrev g : Graph
  g = class_game tables metric c

  -- the position at the index that a position has
  pub spelled_at : (i : ℕ) (p : Setup) → IsAdmissible p → IsIndex c p i → (q : Setup) × IsAt c i q
  spelled_at i p ok is = ⊎_elim
      (λ (h : (q : Setup) × Spells c i q × IsIndex c q i). (h.0, record { spells = h.1; index = h.2 }))
      (λ (void : IsVoid c i). absurd (void p ok is)) (laws.index_or_void c i below)

  like_goes : (col : Metric) (p p' q q' : Setup) (m m' : Move) → IsAdmissible q → AreImages q q' → (Zeroes p m ↔ Zeroes p' m') → GoesOn col c p m q → GoesOn col c p' m' q'
  like_goes Mate p p' q q' m m' ok images zeroes on = (on.0, image_index laws c below on.0 q q' ok images on.1)
  like_goes Zeroing p p' q q' m m' ok images zeroes on = λ z. on (zeroes.1 z)

  goes_told : (p q : Setup) (m : Move) → IsAdmissible q → (b : Bool) → goes_on metric c p m q ≡ b → GoesOn metric c p m q ⊎ ¬ GoesOn metric c p m q
  goes_told p q m ok true e = inl ((goes_is laws metric c p q m ok).0 e)
  goes_told p q m ok false e = inr (λ on. false≢true (sym e ∙ (goes_is laws metric c p q m ok).1 on))

  -- whether a step goes on can be told
  pub on_or_off : (p q : Setup) (m : Move) → IsAdmissible q → GoesOn metric c p m q ⊎ ¬ GoesOn metric c p m q
  on_or_off p q m ok = goes_told p q m ok (goes_on metric c p m q) refl

  index_on : (col : Metric) (p q : Setup) (m : Move) → IsAdmissible p → (flipped : Bool) × IsOf c flipped p → Leads p m q → GoesOn col c p m q → (j : ℕ) × IsIndex c q j
  index_on Mate p q m ok of leads on = on
  index_on Zeroing p q m ok of leads on =
      let own = quiet_stays laws c p q m ok of leads on in
      laws.facts.some_index q c own.0 below (laws.facts.step_admissible p q m ok leads) own.1

  -- a step that goes on stays in the class
  pub on_index : (i : ℕ) (p q : Setup) (m : Move) → IsAdmissible p → IsIndex c p i → Leads p m q → GoesOn metric c p m q → (j : ℕ) × IsIndex c q j
  on_index i p q m ok is leads on = index_on metric p q m ok (laws.indexed_class p c i ok is) leads on

  -- edges are steps to positions with those indexes
  pub edge_step : (i j : ℕ) (p : Setup) → IsAdmissible p → IsIndex c p i → In j (g.out i) → StepOn metric c p j
  edge_step i j p ok is h =
      let edge = (connects_is laws metric c i j below).0 (passing_passes (size_of c) (λ k. connects metric c i k) j (in_contains j (g.out i) h)) in
      let step = (laws.plays_alike p edge.from c i ok is edge.at.spells).back edge.to (edge.move, edge.leads) in
      let to_ok = laws.facts.step_admissible edge.from edge.to edge.move edge.at.spells.admissible edge.leads in
      record {
        to = step.0;
        step = step.1;
        on = like_goes metric edge.from p edge.to step.0 edge.move step.1.0 to_ok step.3 step.2 edge.on;
        admissible = laws.facts.image_admissible edge.to step.0 to_ok step.3;
        index = image_index laws c below j edge.to step.0 to_ok step.3 edge.index;
      }

  pub step_edge : (i j : ℕ) (p q : Setup) (m : chess.Move p q) → IsAdmissible p → IsIndex c p i → GoesOn metric c p m.0 q → IsIndex c q j → In j (g.out i)
  step_edge i j p q m ok is on index =
      let at = spelled_at i p ok is in
      let step = (laws.plays_alike p at.0 c i ok is at.1.spells).there q m in
      let q_ok = laws.facts.step_admissible p q m.0 ok m.1 in
      let index' = image_index laws c below j q step.0 q_ok step.3 index in
      let on' = like_goes metric p at.0 q step.0 m.0 step.1.0 q_ok step.3 step.2 on in
      let edge : Connects metric c i j = record { from = at.0; at = at.1; move = step.1.0; to = step.0; leads = step.1.1; on = on'; index = index' } in
      contains_in j (g.out i) (passing_has (size_of c) (λ k. connects metric c i k) j (laws.facts.index_below q c j index) ((connects_is laws metric c i j below).1 edge))

  exits_here : (i : ℕ) (p : Setup) → IsAt c i p → g.exits i ≡ exits_from tables metric c (Some p)
  unfolding exits_at
  exits_here i p at = ap (exits_from tables metric c) ((position_is laws c i p).1 at)

  exit_told : (p : Setup) (m : Move) (e : Exit) (o : Option Setup) → o ≡ played p m → exit_by tables metric c p m o ≡ Some e → (q : Setup) × Leads p m q × (goes_on metric c p m q ≡ false) × (e ≡ exit_of metric (shown_below tables 36 q))
  exit_told p m e None is t = absurd (let x : None ≡ Some e = t in cc)
  exit_told p m e (Some q) is t = of_test (goes_on metric c p m q) refl t
    where
      of_test : (b : Bool) → b ≡ goes_on metric c p m q → (if b then None else Some (exit_of metric (shown_below tables 36 q))) ≡ Some e → (r : Setup) × Leads p m r × (goes_on metric c p m r ≡ false) × (e ≡ exit_of metric (shown_below tables 36 r))
      of_test true b_is u = absurd (let x : None ≡ Some e = u in cc)
      of_test false b_is u = (q, (laws.played p q m).1 (sym is), sym b_is, sym (let x : Some (exit_of metric (shown_below tables 36 q)) ≡ Some e = u in cc))

  as_value : (e : Exit) (v w : Value) → e ≡ exit_of metric v → v ≡ w → e ≡ exit_of metric w
  as_value e v w is same = is ∙ ap (exit_of metric) same

  -- exits are steps to positions of those values
  pub exit_step : (i : ℕ) (e : Exit) (p : Setup) → IsAdmissible p → IsIndex c p i → In e (g.exits i) → StepOff Tells metric c p e
  exit_step i e p ok is h =
      let at = spelled_at i p ok is in
      let b = at.0 in
      let b_ok = at.1.spells.admissible in
      let given = in_given (λ m. exit_by tables metric c b m (played b m)) (moves_of b) e (subst (In e) (exits_here i b at.1) h) in
      let told = exit_told b given.0 e (played b given.0) refl given.2 in
      let to_ok = laws.facts.step_admissible b told.0 given.0 b_ok told.1 in
      let off : ¬ GoesOn metric c b given.0 told.0 = (λ on. false≢true (sym told.2 ∙ (goes_is laws metric c b told.0 given.0 to_ok).1 on)) in
      let value = shows b told.0 given.0 b_ok (laws.indexed_class b c i b_ok at.1.index) told.1 off in
      let step = (laws.plays_alike p b c i ok is at.1.spells).back told.0 (given.0, told.1) in
      let there_ok = laws.facts.image_admissible told.0 step.0 to_ok step.3 in
      record {
        to = step.0;
        step = step.1;
        off = λ on. off (like_goes metric p b step.0 told.0 step.1.0 given.0 there_ok (laws.facts.images_back told.0 step.0 to_ok step.3) (step.2.1, step.2.0) on);
        value = value.0;
        tells = (telling.images told.0 step.0 to_ok step.3 value.0).0 value.1;
        is = as_value e (shown_below tables 36 told.0) value.0 told.3 value.2;
      }

  test_off : (p q : Setup) (m : Move) (b : Bool) → goes_on metric c p m q ≡ b → b ≡ false → exit_by tables metric c p m (Some q) ≡ Some (exit_of metric (shown_below tables 36 q))
  test_off p q m b e f = ap (λ x. if x then None else Some (exit_of metric (shown_below tables 36 q))) (e ∙ f)

  off_test : (p q : Setup) (m : Move) (b : Bool) → IsAdmissible q → ¬ GoesOn metric c p m q → goes_on metric c p m q ≡ b → b ≡ false
  off_test p q m true ok off e = absurd (off ((goes_is laws metric c p q m ok).0 e))
  off_test p q m false ok off e = refl

  pub step_exit : (i : ℕ) (p q : Setup) (m : chess.Move p q) → IsAdmissible p → IsIndex c p i → ¬ GoesOn metric c p m.0 q → (e : Exit) × In e (g.exits i) × ((v : Value) × Tells q v × (e ≡ exit_of metric v))
  step_exit i p q m ok is none =
      let at = spelled_at i p ok is in
      let b = at.0 in
      let b_ok = at.1.spells.admissible in
      let step = (laws.plays_alike p b c i ok is at.1.spells).there q m in
      let q_ok = laws.facts.step_admissible p q m.0 ok m.1 in
      let to_ok = laws.facts.image_admissible q step.0 q_ok step.3 in
      let off : ¬ GoesOn metric c b step.1.0 step.0 = (λ on. none (like_goes metric b p step.0 q step.1.0 m.0 to_ok (laws.facts.images_back q step.0 q_ok step.3) (step.2.1, step.2.0) on)) in
      let value = shows b step.0 step.1.0 b_ok (laws.indexed_class b c i b_ok at.1.index) step.1.1 off in
      let exit = ap (exit_by tables metric c b step.1.0) ((laws.played b step.0 step.1.0).0 step.1.1) ∙ test_off b step.0 step.1.0 (goes_on metric c b step.1.0 step.0) refl (off_test b step.0 step.1.0 (goes_on metric c b step.1.0 step.0) to_ok off refl) in
      let listed = contains_in step.1.0 (moves_of b) ((laws.listed b step.1.0 b_ok).1 (step.0, step.1.1)) in
      let e = exit_of metric (shown_below tables 36 step.0) in (
        e,
        subst (In e) (sym (exits_here i b at.1)) (given_in (λ m'. exit_by tables metric c b m' (played b m')) (moves_of b) step.1.0 e listed exit),
        (value.0, (telling.images q step.0 q_ok step.3 value.0).1 value.1, ap (exit_of metric) value.2),
      )

  mated_from : (b : Setup) (o : Option Setup) → o ≡ Some b → is_mated o ≡ tells (decided_checkmate b)
  mated_from b o e = ap is_mated e

  -- mated nodes are checkmates
  pub mated_is : (i : ℕ) (p : Setup) → IsAdmissible p → IsIndex c p i → (g.mated i ≡ true) ↔ IsCheckmate p
  mated_is i p ok is =
      let at = spelled_at i p ok is in
      let alike = laws.plays_alike p at.0 c i ok is at.1.spells in
      let told = mated_from at.0 (position_at c i) ((position_is laws c i at.0).1 at.1) in
      (λ t. alike.checkmate.1 (tells_so (decided_checkmate at.0) (sym told ∙ t)), λ mate. told ∙ tells_where (decided_checkmate at.0) (alike.checkmate.0 mate))
