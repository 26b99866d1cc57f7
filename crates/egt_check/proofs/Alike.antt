-- A position, its images and the position that its index spells play alike, and have one entry.
use Rattle.std.proofs.Common.{◌≡◌, ◌≢◌, ◌⊎◌, ℕ, ◌<◌, ◌↔◌, Bool, inl, inr, sym, subst}
use Rattle.egt_check.specs.Prelude.{cases_eq, AreImages, SettlesTo, Setup, IsAdmissible, IsOf, Spells, IsIndex, IsVoid}
use Rattle.egt_check.specs.Prelude.{Value, Metric, StepAlike, Facts, Tables, ShowsOf}

module _ (facts : Facts) where
  -- an image of its settled form plays like a position
  pub settled_image_alike : (p s q : Setup) → IsAdmissible p → SettlesTo p s → AreImages s q → StepAlike p q
  settled_image_alike p s q ok settles images = record {
    checkmate = (
      λ mate. (facts.image_checkmate s q s_ok images).0 ((facts.settled_checkmate p s ok settles).0 mate),
      λ mate. (facts.settled_checkmate p s ok settles).1 ((facts.image_checkmate s q s_ok images).1 mate),
    );
    there = λ r m.
        let step = facts.image_steps s q r m.0 s_ok images ((facts.settled_steps p s r m.0 ok settles).0 m.1) in
        let same = facts.settled_zeroes p s m.0 ok settles in
        (step.1, (step.0, step.2), (λ z. step.4.0 (same.0 z), λ z. same.1 (step.4.1 z)), step.3);
    back = λ r m.
        let step = facts.image_steps q s r m.0 q_ok (facts.images_back s q s_ok images) m.1 in
        let same = facts.settled_zeroes p s step.0 ok settles in
        (step.1, (step.0, (facts.settled_steps p s step.1 step.0 ok settles).1 step.2), (λ z. same.1 (step.4.0 z), λ z. step.4.1 (same.0 z)), step.3);
  }
    where
      s_ok : IsAdmissible s
      s_ok = facts.settled_admissible p s ok settles

      q_ok : IsAdmissible q
      q_ok = facts.image_admissible s q s_ok images

  -- a position with an index in a class is of the class
  pub indexed_class : (c i : ℕ) (p : Setup) → IsAdmissible p → IsIndex c p i → (flipped : Bool) × IsOf c flipped p
  indexed_class c i p ok is =
      let s_ok = facts.settled_admissible p is.settled ok is.settles in
      let spelled = facts.spelled_class c i is.image is.spells in
      let settled = facts.image_class is.image is.settled c spelled.0 (facts.image_admissible is.settled is.image s_ok is.images) (facts.images_back is.settled is.image s_ok is.images) spelled.1 in
      (settled.0, (facts.settled_class p is.settled c settled.0 is.settles).1 settled.1)

  -- what spells a code that is not void has it as its index
  pub spelled_index : (c i : ℕ) (p : Setup) → c < 36 → Spells c i p → ¬ IsVoid c i → IsIndex c p i
  spelled_index c i p c_in spells index = of_same (cases_eq there.0 i)
    where
      of : (flipped : Bool) × IsOf c flipped p
      of = facts.spelled_class c i p spells

      there : (j : ℕ) × IsIndex c p j
      there = facts.some_index p c of.0 c_in spells.admissible of.1

      of_same : (there.0 ≡ i) ⊎ (there.0 ≢ i) → IsIndex c p i
      of_same (inl e) = subst (IsIndex c p) e there.1
      of_same (inr other) = absurd (index (λ q ok is.
          other (facts.one_index p c there.0 i spells.admissible there.1 (facts.index_spells q p c i ok is spells))))

  -- an image has the index of the position
  pub image_index : (c i : ℕ) (p q : Setup) → c < 36 → IsAdmissible p → AreImages p q → IsIndex c p i → IsIndex c q i
  image_index c i p q c_in ok images is =
      let own = indexed_class c i p ok is in
      let q_ok = facts.image_admissible p q ok images in
      let turned = facts.image_class p q c own.0 ok images own.1 in
      let other = facts.some_index q c turned.0 c_in q_ok turned.1 in
      let here = facts.settles p in
      let there = facts.settles q in
      let same = (facts.like_index p q c i other.0 ok q_ok is other.1).1 (record {
        here = here.0;
        there = there.0;
        settles_here = here.1;
        settles_there = there.1;
        images = facts.images_settle p q here.0 there.0 ok images here.1 there.1;
      }) in
      subst (λ j. IsIndex c q j) (sym same) other.1

  -- so the same is shown of it
  pub image_shows : (tables : Tables) (metric : Metric) (v : Value) (p q : Setup) → IsAdmissible p → AreImages p q → ShowsOf tables metric p v → ShowsOf tables metric q v
  image_shows tables metric v p q ok images shown =
      let e = shown.1 in
      let turned = facts.image_class p q e.class e.flipped ok images e.of in (
        shown.0,
        record {
          class = e.class;
          below = e.below;
          flipped = turned.0;
          of = turned.1;
          table = e.table;
          found = e.found;
          index = e.index;
          is_index = image_index e.class e.index p q e.below ok images e.is_index;
          is = e.is;
        },
        shown.2,
      )

  pub images_show_alike : (tables : Tables) (metric : Metric) (v : Value) (p q : Setup) → IsAdmissible p → AreImages p q → ShowsOf tables metric p v ↔ ShowsOf tables metric q v
  images_show_alike tables metric v p q ok images =
      (image_shows tables metric v p q ok images, image_shows tables metric v q p (facts.image_admissible p q ok images) (facts.images_back p q ok images))

  -- a position plays like the one that its index spells
  pub spelled_alike : (one_spelled : (c code : ℕ) (p q : Setup) → Spells c code p → Spells c code q → p ≡ q) (c i : ℕ) (p q : Setup) → IsAdmissible p → IsIndex c p i → Spells c i q → StepAlike p q
  spelled_alike one_spelled c i p q ok is spells =
      subst (StepAlike p) (one_spelled c i is.image q is.spells spells) (settled_image_alike p is.settled is.image ok is.settles is.images)
