-- The moves that go on to a position are taken back by its unmoves.
use Rattle.std.proofs.Common.{◌≡◌, ℕ, ◌<◌, ◌⊎◌, ◌↔◌, Bool, List, IsTrue, IsSome, Option, Some, None, refl, sym, subst}
use Rattle.std.proofs.Common.{inl, inr, arith}
use Rattle.egt_sweep.specs.Prelude.{Contains, Decided, tells, tells_so, tells_where, decided_as, decided_on}
use Rattle.egt_sweep.specs.Prelude.{decided_kind, AreImages, IsSettled, SettlesTo, Setup, IsAdmissible, Placement}
use Rattle.egt_sweep.specs.Prelude.{Stands, Kind, P, Man, IsOf, Spells, IsIndex, IsVoid, Zeroes, IsPawnOn, Captures}
use Rattle.egt_sweep.specs.Prelude.{Leads, Move, Metric, Mate, Zeroing, TakesBack, IsUnmove, Unmove, IsAt, GoesOn}
use Rattle.egt_sweep.specs.Prelude.{Connects, GoesBack, ComesFrom, Laws}
use Rattle.egt_sweep.proofs.Staying.{no_promotion}

pub decided_pawn : (men : Placement) (s : ℕ) → Decided (IsPawnOn men s)
decided_pawn men s = decided_as
    (λ (h : (man : Man) × Stands men s man × (man.kind ≡ P)). record { man = h.0; stands = h.1; pawn = h.2 })
    (λ (on : IsPawnOn men s). (on.man, on.stands, on.pawn))
    (decided_on men s (λ man. man.kind ≡ P) (λ man. decided_kind man.kind P))

module _ (laws : Laws) (c : ℕ) (below : c < 36) where
  -- an image has the same index
  pub image_index : (i : ℕ) (p q : Setup) → IsAdmissible p → AreImages p q → IsIndex c p i → IsIndex c q i
  image_index i p q ok images is =
      let own = laws.indexed_class p c i ok is in
      let q_ok = laws.facts.image_admissible p q ok images in
      let turned = laws.facts.image_class p q c own.0 ok images own.1 in
      let other = laws.facts.some_index q c turned.0 below q_ok turned.1 in
      let here = laws.facts.settles p in
      let there = laws.facts.settles q in
      let same = (laws.facts.like_index p q c i other.0 ok q_ok is other.1).1 (record {
        here = here.0;
        there = there.0;
        settles_here = here.1;
        settles_there = there.1;
        images = laws.facts.images_settle p q here.0 there.0 ok images here.1 there.1;
      }) in
      subst (IsIndex c q) (sym same) other.1

  -- the position that an index spells is settled
  pub at_settled : (i : ℕ) (p : Setup) → IsAt c i p → IsSettled p
  at_settled i p at =
      let is = at.index in
      let s_ok = laws.facts.settled_admissible p is.settled at.spells.admissible is.settles in
      let image : is.image ≡ p = laws.one_spelled c i is.image p is.spells at.spells in
      subst IsSettled image ((laws.images_settled is.settled is.image s_ok is.images).0 (laws.settled p is.settled is.settles))

  settled_self : (p s : Setup) → IsSettled p → SettlesTo p s → s ≡ p
  settled_self p s settled h3 = grind arith

  -- a move that stays in the class neither captures nor promotes
  stays_quiet : (p q : Setup) (m : Move) → IsAdmissible p → (flipped : Bool) × IsOf c flipped p → Leads p m q → (i : ℕ) × IsIndex c q i → Captures p m ⊎ IsSome m.promo → ⊥
  stays_quiet p q m ok of leads index other =
      let child = laws.other_class p q m c of.0 below ok of.1 leads other in
      let lt = laws.facts.child_below c child.0 below child.2 in
      let q_ok = laws.facts.step_admissible p q m ok leads in
      let own = laws.indexed_class q c index.0 q_ok index.1 in
      let same = laws.facts.one_class q child.0 c child.1 own.0 (omega (arith, lt, below)) below child.3 own.1 in
      omega (arith, lt, same)

  no_promo : (promo : Option Kind) → ¬ IsSome promo → promo ≡ None
  no_promo None none = refl
  no_promo (Some kind) none = absurd (none refl)

  -- nor does one that does not zero
  quiet : (metric : Metric) (p q : Setup) (m : Move) → IsAdmissible p → (flipped : Bool) × IsOf c flipped p → Leads p m q → GoesOn metric c p m q → (¬ Captures p m) × (m.promo ≡ None)
  quiet Mate p q m ok of leads on = ((λ captures. stays_quiet p q m ok of leads on (inl captures)), no_promo m.promo (λ some. stays_quiet p q m ok of leads on (inr some)))
  quiet Zeroing p q m ok of leads on = ((λ captures. elim captures [ inl held ↦ on (inl held) | inr passing ↦ on (inr passing.0) ]), no_promotion p q m leads (λ pawn. on (inr pawn)) m.promo refl)

  goes_back : (metric : Metric) (p q : Setup) (m : Move) (b : Bool) → GoesOn metric c p m q → (IsTrue b ↔ IsPawnOn p.men m.from) → (w : Unmove) → w.pawn ≡ b → GoesBack metric w
  goes_back Mate p q m b on is w e = tt
  goes_back Zeroing p q m b on is w e = λ pawn. on (inr (is.0 (subst IsTrue e pawn)))

  -- each edge to the index of q is taken back by an unmove of q
  pub taken_back : (metric : Metric) (k j : ℕ) (q : Setup) → IsAt c j q → Connects metric c k j → (w : Unmove) × IsUnmove q w × ComesFrom metric c w k
  taken_back metric k j q at edge =
      let b = edge.from in
      let ok = edge.at.spells.admissible in
      let of = laws.indexed_class b c k ok edge.at.index in
      let still = quiet metric b edge.to edge.move ok of edge.leads edge.on in
      let to_ok = laws.facts.step_admissible b edge.to edge.move ok edge.leads in
      let alike = (laws.facts.like_index edge.to q c j j to_ok at.spells.admissible edge.index at.index).0 refl in
      let there : alike.there ≡ q = settled_self q alike.there (at_settled j q at) alike.settles_there in
      let images = subst (AreImages alike.here) there alike.images in
      let pawn = decided_pawn b.men edge.move.from in
      let u : Unmove = record { before = b; pawn = tells pawn } in
      let back : TakesBack u edge.move alike.here = record {
        comes = record { admissible = ok; settled = at_settled k b edge.at; led = edge.to; leads = edge.leads; no_capture = still.0; no_promotion = still.1; settles = alike.settles_here };
        pawn = (tells_so pawn, tells_where pawn);
      } in
      let w = laws.like_unmoves alike.here q u (laws.facts.settled_admissible edge.to alike.here to_ok alike.settles_here) images (edge.move, back) in
      (w.0, w.1, (goes_back metric b edge.to edge.move (tells pawn) edge.on (tells_so pawn, tells_where pawn) w.0 w.3, image_index k b w.0.before ok w.2 edge.at.index))

  goes_forth : (metric : Metric) (b q r : Setup) (m n : Move) (u : Unmove) → u.before ≡ b → TakesBack u m q → (Zeroes b m ↔ Zeroes r n) → (x : Setup) → (i : ℕ) × IsIndex c x i → GoesBack metric u → GoesOn metric c r n x
  goes_forth Mate b q r m n u e back zeroes x index goes = index
  goes_forth Zeroing b q r m n u e back zeroes x index goes = λ z. elim (zeroes.1 z) [
    | inl held ↦ back.comes.no_capture (subst (λ y. Captures y m) (sym e) (inl held))
    | inr pawn ↦ goes (back.pawn.1 (subst (λ (y : Setup). IsPawnOn y.men m.from) (sym e) pawn))
  ]

  -- and each unmove takes an edge back
  pub leads_back : (metric : Metric) (k j : ℕ) (q : Setup) (u : Unmove) → IsAt c j q → IsUnmove q u → ComesFrom metric c u k → Connects metric c k j
  leads_back metric k j q u at (m, back) from = of_spelled (laws.index_or_void c k below)
    where
      b : Setup
      b = u.before

      ok : IsAdmissible b
      ok = back.comes.admissible

      led : Setup
      led = back.comes.led

      led_ok : IsAdmissible led
      led_ok = laws.facts.step_admissible b led m ok back.comes.leads

      q_ok : IsAdmissible q
      q_ok = at.spells.admissible

      led_index : IsIndex c led j
      led_index =
          let own = laws.indexed_class q c j q_ok at.index in
          let of = (laws.facts.settled_class led q c own.0 back.comes.settles).1 own.1 in
          let index = laws.facts.some_index led c own.0 below led_ok of in
          let here = laws.facts.settles q in
          let same_here : here.0 ≡ q = settled_self q here.0 (at_settled j q at) here.1 in
          let same = (laws.facts.like_index led q c index.0 j led_ok q_ok index.1 at.index).1 (record {
            here = q;
            there = q;
            settles_here = back.comes.settles;
            settles_there = subst (SettlesTo q) same_here here.1;
            images = laws.same_image q;
          }) in
          subst (IsIndex c led) same index.1

      of_spelled : ((p : Setup) × Spells c k p × IsIndex c p k) ⊎ IsVoid c k → Connects metric c k j
      of_spelled (inr void) = absurd (void b ok from.1)
      of_spelled (inl spelled) =
          let alike = laws.plays_alike b spelled.0 c k ok from.1 spelled.1 in
          let step = alike.there led (m, back.comes.leads) in
          let index = image_index j led step.0 led_ok step.3 led_index in
          record {
            from = spelled.0;
            at = record { spells = spelled.1; index = spelled.2 };
            move = step.1.0;
            to = step.0;
            leads = step.1.1;
            on = goes_forth metric b q spelled.0 m step.1.0 u refl back step.2 step.0 (j, index) from.0;
            index = index;
          }

  -- the position before is of the class
  pub before_class : (q : Setup) (u : Unmove) → IsAdmissible q → (flipped : Bool) × IsOf c flipped q → IsUnmove q u → (flipped : Bool) × IsOf c flipped u.before
  before_class q u ok of (m, back) =
      let b_ok = back.comes.admissible in
      let own = laws.facts.classes u.before b_ok in
      let led = laws.quiet_class u.before back.comes.led m own.0 own.1 b_ok own.3 back.comes.leads back.comes.no_capture back.comes.no_promotion in
      let now = (laws.facts.settled_class back.comes.led q own.0 own.1 back.comes.settles).0 led in
      let same = laws.facts.one_class q own.0 c own.1 of.0 own.2 below now of.1 in
      (own.1, subst (λ d. IsOf d own.1 u.before) same own.3)

  -- the unmoves of the position at an index come from exactly the nodes that lead to it
  pub sources_are : (metric : Metric) (q : Setup) (items listed : List Unmove) (j k : ℕ) → items ≡ listed → ((u : Unmove) → Contains listed u ↔ IsUnmove q u) → IsAt c j q →
      ((u : Unmove) × Contains items u × ComesFrom metric c u k) ↔ Connects metric c k j
  sources_are metric q items listed j k same exact at = (
    λ h. leads_back metric k j q h.0 at ((exact h.0).0 (subst (λ us. Contains us h.0) same h.1)) h.2,
    λ edge. let w = taken_back metric k j q at edge in (w.0, subst (λ us. Contains us w.0) (sym same) ((exact w.0).1 w.1), w.2),
  )
