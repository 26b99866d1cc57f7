-- Where the children's columns of the nearest mates are true, a table's keeps the rules exactly where it is true.
use Rattle.std.proofs.Common.{◌≡◌, ℕ, zero, suc, ◌<◌, ◌≤◌, ◌⊎◌, ◌↔◌, Bool, IsTrue, Option, Some, None, refl, sym, subst}
use Rattle.std.proofs.Common.{inl, inr, arith}
use Rattle.egt_check.specs.Prelude.{cases_lt, ⊎_elim, ⊎_map, Setup, IsAdmissible, IsOf, IsIndex, size_of, chess}
use Rattle.egt_check.specs.Prelude.{TableValue, IsTable, StepAlike, Facts, FitsReachBeside, HasReachEntry, ShowsReach}
use Rattle.egt_check.specs.Prelude.{ShowsReachOf, FitsReach, KeepsReach, KeepsReachBelow, Tables, reach_at, IsTrueReach}
use Rattle.egt_check.specs.Prelude.{HasTrueReachesBelow}
use Rattle.egt_moves.specs.Reach.{FitsReach as FitsNumbers, HasReach, ReachJudgedOver}
use Rattle.egt_entries.specs.declared.rule.Rule.TheVariants as rules
use Rattle.egt_check.proofs.Alike.{settled_image_alike, indexed_class, spelled_index}
use Rattle.egt_check.proofs.ReachTold.{images_show_reach, number_at, reach_in_range, reach_range, reach_shown_told, reach_told_shown}
use Rattle.egt_check.proofs.TrueTables.{Child, Own, is_own, own, owned, step}

-- what is shown of positions
abbrev Showing : Type 1
Showing = Setup → Option ℕ → Type 0

abbrev ShownSame : Showing → Showing → Setup → Setup → Type 0
ShownSame shows shows' q q' = (number : Option ℕ) → shows q number ↔ shows' q' number

-- each step from p has its like from p', to where the same is shown
abbrev HasLike : Showing → Showing → Setup → Setup → Type 0
HasLike shows shows' p p' = (q : Setup) → chess.Move p q → (q' : Setup) × chess.Move p' q' × ShownSame shows shows' q q'

record Plays (shows shows' : Showing) (p p' : Setup) : Type 0 where
  checkmate : chess.Checkmate p ↔ chess.Checkmate p'
  there : HasLike shows shows' p p'
  back : HasLike shows' shows p' p

-- what fits beside the successors of one position fits beside those of another that plays like it
carry : (shows shows' : Showing) (p p' : Setup) → Plays shows shows' p p' → (number : Option ℕ) → FitsReachBeside shows p number → FitsReachBeside shows' p' number
carry shows shows' p p' like (Some zero) h = like.checkmate.0 h
carry shows shows' p p' like (Some (suc n)) h =
    let there = like.there h.1.0.0 h.1.0.1 in (
      λ mate. h.0 (like.checkmate.1 mate),
      ((there.0, there.1, (there.2 (Some n)).0 h.1.0.2), λ q' m' k shown. let back = like.back q' m' in h.1.1 back.0 back.1 k ((back.2 (Some k)).0 shown)),
    )
carry shows shows' p p' like None h = (λ mate. h.0 (like.checkmate.1 mate), λ q' m' k shown. let back = like.back q' m' in h.1 back.0 back.1 k ((back.2 (Some k)).0 shown))

module _ (facts : Facts) (tables : Tables) (t : TableValue) (sized : IsTable t) (here : tables t.class ≡ Some t) (children : HasTrueReachesBelow tables t.class) where
  Ours : Setup → Type 0
  Ours = Own facts tables t sized here

  Theirs : Setup → Type 0
  Theirs = Child facts tables t sized here

  our : Setup → Bool
  our = own facts tables t sized here

  is_our : (p : Setup) → Ours p → IsTrue (our p)
  unfolding Ours our
  is_our = is_own facts tables t sized here

  ours : (p : Setup) → IsTrue (our p) → Ours p
  unfolding Ours our
  ours = owned facts tables t sized here

  next : (p q : Setup) → Ours p → chess.Move p q → Ours q ⊎ Theirs q
  unfolding Ours Theirs
  next = step facts tables t sized here

  entry_there : (u : TableValue) (d : ℕ) (flipped : Bool) (p : Setup) (i : ℕ) → d < 36 → tables d ≡ Some u → IsOf d flipped p → IsIndex d p i → HasReachEntry tables p (reach_at u i)
  entry_there u d flipped p i d_in found of is = record { class = d; below = d_in; flipped = flipped; of = of; table = u; found = found; index = i; is_index = is; is = refl }

  -- what a true column shows
  true_shown : (u : TableValue) (d : ℕ) (flipped : Bool) (p : Setup) → d < 36 → tables d ≡ Some u → u.class ≡ d → IsTrueReach u → IsAdmissible p → IsOf d flipped p → (number : Option ℕ) × HasReach chess p number × ShowsReachOf tables p number
  true_shown u d flipped p d_in found class truth ok of =
      let index = facts.some_index p d flipped d_in ok of in
      let tells = truth.true p index.0 ok (subst (λ c. IsIndex c p index.0) (sym class) index.1) in
      (tells.0, tells.1, (reach_at u index.0, entry_there u d flipped p index.0 d_in found of index.1, tells.2))

  child_shown : (q : Setup) → Theirs q → (number : Option ℕ) × HasReach chess q number × ShowsReachOf tables q number
  unfolding Theirs
  child_shown q child =
      let d = child.1.0 in
      let u = children d child.1.2 in
      let below = facts.child_below t.class d sized.class_in child.1.2 in
      true_shown u.0 d child.1.1 q (omega (arith, below, sized.class_in)) u.1 u.2 u.4 child.0 child.1.3

  told : Showing
  told q number = number_at facts tables q ≡ number

  child_tells : (q : Setup) → Theirs q → HasReach chess q (number_at facts tables q)
  unfolding Theirs
  child_tells q child = let s = child_shown q child in subst (HasReach chess q) (sym (reach_shown_told facts tables q s.0 child.0 s.2)) s.1

  nothing_told : (number : Option ℕ) → ((k : ℕ) → number ≡ Some k → ⊥) → number ≡ None
  nothing_told number h = grind arith

  fits_numbers : (p : Setup) (number : Option ℕ) → FitsReachBeside told p number → FitsNumbers chess (number_at facts tables) p number
  unfolding told
  fits_numbers p (Some zero) h = h
  fits_numbers p (Some (suc n)) h = h
  fits_numbers p None h = (h.0, λ q m. nothing_told (number_at facts tables q) (h.1 q m))

  numbers_fit : (p : Setup) (number : Option ℕ) → FitsNumbers chess (number_at facts tables) p number → FitsReachBeside told p number
  unfolding told
  numbers_fit p (Some zero) h = h
  numbers_fit p (Some (suc n)) h = h
  numbers_fit p None h = (h.0, λ q m k some. absurd (let none = h.1 q m in cc))

  -- something is shown of each position of the class
  AllShown : Type 0
  AllShown = (p : Setup) → Ours p → (number : Option ℕ) × ShowsReachOf tables p number

  module _ (all : AllShown) where
    next_shown : (p q : Setup) → Ours p → chess.Move p q → (number : Option ℕ) × ShowsReachOf tables q number
    unfolding AllShown
    next_shown p q o m = ⊎_elim (all q) (λ child. let s = child_shown q child in (s.0, s.2)) (next p q o m)

    -- what is shown of a successor, or of an image of it, is told of it
    shown_same : (p q q' : Setup) → Ours p → chess.Move p q → (IsAdmissible q → (number : Option ℕ) → ShowsReachOf tables q number ↔ ShowsReachOf tables q' number) → ShownSame (ShowsReachOf tables) told q' q
    unfolding told Ours
    shown_same p q q' o m same number =
        let ok = facts.step_admissible p q m.0 o.0 m.1 in
        (λ shown. reach_shown_told facts tables q number ok ((same ok number).1 shown), λ tells. (same ok number).0 (reach_told_shown facts tables q number ok (next_shown p q o m) tells))

    turned : (q q' : Setup) → ShownSame (ShowsReachOf tables) told q' q → ShownSame told (ShowsReachOf tables) q q'
    turned q q' same number = ((same number).1, (same number).0)

    -- a position of the class plays like one whose steps lead to images
    plays_like : (p p' : Setup) → Ours p → IsAdmissible p' → StepAlike p p' → Plays (ShowsReachOf tables) told p' p
    plays_like p p' o ok' alike = record {
      checkmate = (alike.checkmate.1, alike.checkmate.0);
      there = λ q' m'.
          let s = alike.back q' m' in
          let same = λ (number : Option ℕ). images_show_reach facts tables number q' s.0 (facts.step_admissible p' q' m'.0 ok' m'.1) s.3 in
          (s.0, s.1, shown_same p s.0 q' o s.1 (λ ok number. ((same number).1, (same number).0)));
      back = λ q m.
          let s = alike.there q m in
          (s.0, s.1, turned q s.0 (shown_same p q s.0 o m (λ ok number. images_show_reach facts tables number q s.0 ok s.3)));
    }

  -- a column that keeps the rules is true
  module _ (keeps : KeepsReachBelow tables t (size_of t.class)) where
    own_shown : (p : Setup) (i : ℕ) → IsAdmissible p → IsIndex t.class p i → (number : Option ℕ) × ShowsReach (reach_at t i) number
    own_shown p i ok is =
        let below = facts.index_below p t.class i is in
        let void : KeepsReach tables t i rules.Void = keeps i below rules.Void in
        let range : KeepsReach tables t i rules.Range = keeps i below rules.Range in
        reach_in_range (reach_at t i) (λ e. void.0 e p ok is) range

    all_shown : AllShown
    unfolding AllShown Ours
    all_shown p o =
        let index = facts.some_index p t.class o.1.0 sized.class_in o.0 o.1.1 in
        let s = own_shown p index.0 o.0 index.1 in
        (s.0, (reach_at t index.0, entry_there t t.class o.1.0 p index.0 sized.class_in here o.1.1 index.1, s.1))

    by_rule : (i : ℕ) (number : Option ℕ) → i < size_of t.class → FitsReach tables t i number
    by_rule i (Some n) below = (keeps i below rules.Reach) n
    by_rule i None below = keeps i below rules.Dead

    own_fits : (p : Setup) → Ours p → FitsReachBeside told p (number_at facts tables p)
    unfolding Ours
    own_fits p o =
        let index = facts.some_index p t.class o.1.0 sized.class_in o.0 o.1.1 in
        let is = index.1 in
        let s = own_shown p index.0 o.0 is in
        let below = facts.index_below p t.class index.0 is in
        let fits = by_rule index.0 s.0 below s.1 is.image is.spells in
        let alike = settled_image_alike facts p is.settled is.image o.0 is.settles is.images in
        let tells = reach_shown_told facts tables p s.0 o.0 (reach_at t index.0, entry_there t t.class o.1.0 p index.0 sized.class_in here o.1.1 is, s.1) in
        subst (FitsReachBeside told p) (sym tells) (carry (ShowsReachOf tables) told is.image p (plays_like all_shown p is.image o is.spells.admissible alike) s.0 fits)

    judged : ReachJudgedOver chess (λ p. IsTrue (our p)) (number_at facts tables)
    judged = record {
      over = λ p q o m. ⊎_map (is_our q) (child_tells q) (next p q (ours p o) m);
      fits = λ p o. fits_numbers p (number_at facts tables p) (own_fits p (ours p o));
    }

    pub kept_reach_is_true : IsTrueReach t
    unfolding Ours
    kept_reach_is_true = record {
      void = λ i below void. (let rule : KeepsReach tables t i rules.Void = keeps i below rules.Void in rule.1 void);
      true = λ p i ok is.
          let of = indexed_class facts t.class i p ok is in
          let s = own_shown p i ok is in
          let shown = reach_shown_told facts tables p s.0 ok (reach_at t i, entry_there t t.class of.0 p i sized.class_in here of.1 is, s.1) in
          (s.0, subst (HasReach chess p) shown (facts.reach_by_rules our (number_at facts tables) judged p (is_our p (ok, of))), s.1);
    }

  -- a true column keeps the rules
  module _ (truth : IsTrueReach t) where
    true_own : (p : Setup) → Ours p → (number : Option ℕ) × HasReach chess p number × ShowsReachOf tables p number
    unfolding Ours
    true_own p o = true_shown t t.class o.1.0 p sized.class_in here refl truth o.0 o.1.1

    own_tells : (p : Setup) → Ours p → HasReach chess p (number_at facts tables p)
    unfolding Ours
    own_tells p o = let s = true_own p o in subst (HasReach chess p) (sym (reach_shown_told facts tables p s.0 o.0 s.2)) s.1

    all_true : AllShown
    unfolding AllShown
    all_true p o = let s = true_own p o in (s.0, s.2)

    true_judged : ReachJudgedOver chess (λ p. IsTrue (our p)) (number_at facts tables)
    true_judged = facts.rules_by_reach our (number_at facts tables) (λ p o. own_tells p (ours p o)) (λ p q o m. ⊎_map (is_our q) (child_tells q) (next p q (ours p o) m))

    -- what is told of the successors is shown of them
    plays_itself : (p : Setup) → Ours p → Plays told (ShowsReachOf tables) p p
    plays_itself p o = record {
      checkmate = ((λ mate. mate), (λ mate. mate));
      there = λ q m. (q, m, turned all_true q q (shown_same all_true p q q o m (λ ok number. ((λ s. s), (λ s. s)))));
      back = λ q m. (q, m, shown_same all_true p q q o m (λ ok number. ((λ s. s), (λ s. s))));
    }

    fits_true : (i : ℕ) (number : Option ℕ) → i < size_of t.class → FitsReach tables t i number
    unfolding Ours
    fits_true i number below shown p spells =
        let some = (reach_range (reach_at t i) number shown).0 in
        let is = spelled_index facts t.class i p sized.class_in spells (λ void. some (truth.void i below void)) in
        let of = indexed_class facts t.class i p spells.admissible is in
        let o : Own facts tables t sized here p = (spells.admissible, of) in
        let tells = reach_shown_told facts tables p number spells.admissible (reach_at t i, entry_there t t.class of.0 p i sized.class_in here of.1 is, shown) in
        carry told (ShowsReachOf tables) p p (plays_itself p o) number (subst (FitsReachBeside told p) tells (numbers_fit p (number_at facts tables p) (true_judged.fits p (is_our p o))))

    not_high : (i : ℕ) → i < size_of t.class → (32002 < reach_at t i) ⊎ (reach_at t i ≤ 32002) → reach_at t i ≤ 32002
    not_high i below (inr le) = le
    not_high i below (inl high) =
        let void = truth.void i below (λ p ok is. let s = truth.true p i ok is in let le = (reach_range (reach_at t i) s.0 s.2).1 in omega (arith, le, high)) in
        omega (arith, high, void)

    pub true_reach_keeps : KeepsReachBelow tables t (size_of t.class)
    true_reach_keeps i below rules.Void = (λ zero p ok is. let s = truth.true p i ok is in (reach_range (reach_at t i) s.0 s.2).0 zero, λ void. truth.void i below void)
    true_reach_keeps i below rules.Range = not_high i below (cases_lt 32002 (reach_at t i))
    true_reach_keeps i below rules.Kind = tt
    true_reach_keeps i below rules.Win = tt
    true_reach_keeps i below rules.Loss = tt
    true_reach_keeps i below rules.Draw = tt
    true_reach_keeps i below rules.Reach = λ n. fits_true i (Some n) below
    true_reach_keeps i below rules.Dead = fits_true i None below
