-- The least number that the column of the nearest mates shows after a step.
use Rattle.std.proofs.Common.{◌≡◌, ℕ, zero, suc, ◌+◌, ◌≤◌, ◌⊎◌, inl, inr, min, Option, Some, None, IfSome, refl, sym}
use Rattle.std.proofs.Common.{ap, subst, ◌∙◌, arith, IfNone}
use Rattle.egt_check.specs.Prelude.{cases_lt, Setup, IsAdmissible, IsIndex, EachMove, chess, IsLeast, Leads, IsLegal}
use Rattle.egt_check.specs.Prelude.{Move, StandsAs, Standing, Checkmate, Stalemate, HasMove, longest, Facts, nearer}
use Rattle.egt_check.specs.Prelude.{IsNearest, HasReachEntry, IsReachDue, ShowsReach, ShowsReachOf, Tables, reach_at}

-- a position has one entry
pub one_reach_entry : (facts : Facts) (tables : Tables) (p : Setup) → IsAdmissible p → (x y : ℕ) → HasReachEntry tables p x → HasReachEntry tables p y → x ≡ y
one_reach_entry facts tables p ok x y a b =
    let class : a.class ≡ b.class = facts.one_class p a.class b.class a.flipped b.flipped a.below b.below a.of b.of in
    let found : Some a.table ≡ Some b.table = sym a.found ∙ ap tables class ∙ b.found in
    let table : a.table ≡ b.table = cc in
    let there : IsIndex b.class p a.index = subst (λ c. IsIndex c p a.index) class a.is_index in
    let index : a.index ≡ b.index = facts.one_index p b.class a.index b.index ok there b.is_index in
    a.is ∙ ap (λ t. reach_at t a.index) table ∙ ap (reach_at b.table) index ∙ sym b.is

module _ (shows : Setup → ℕ → Type 0) (p : Setup) where
  -- no moves have a least number
  pub nearest_of_none : (Among : Move → Type 0) → ((m : Move) → ¬ Among m) → IsNearest shows p Among None
  nearest_of_none Among never = λ q m leads among. absurd (never m among)

  -- some moves, and then others
  pub nearest_of_both : (A B Among : Move → Type 0) (one other : Option ℕ) → IsNearest shows p A one → IsNearest shows p B other
      → ((m : Move) → Among m → A m ⊎ B m) → IsNearest shows p Among (nearer one other)
  nearest_of_both A B Among (Some i) (Some j) first then covers = elim (cases_lt i j) [
    | inl less ↦ let is : i ≡ min i j = omega (arith, less) in subst (λ n. IsNearest shows p Among (Some n)) is (
      first.0,
      first.1,
      λ q m leads among k shown. elim (covers m among) [
        | inl a ↦ first.2 q m leads a k shown
        | inr b ↦ let above = then.2 q m leads b k shown in omega (arith, above, less)
      ],
    )
    | inr ge ↦ let is : j ≡ min i j = omega (arith, ge) in subst (λ n. IsNearest shows p Among (Some n)) is (
      then.0,
      then.1,
      λ q m leads among k shown. elim (covers m among) [
        | inl a ↦ let above = first.2 q m leads a k shown in omega (arith, above, ge)
        | inr b ↦ then.2 q m leads b k shown
      ],
    )
  ]
  nearest_of_both A B Among (Some i) None first then covers = (
    first.0,
    first.1,
    λ q m leads among k shown. elim (covers m among) [
      | inl a ↦ first.2 q m leads a k shown
      | inr b ↦ absurd (then q m leads b k shown)
    ],
  )
  nearest_of_both A B Among None (Some j) first then covers = (
    then.0,
    then.1,
    λ q m leads among k shown. elim (covers m among) [
      | inl a ↦ absurd (first q m leads a k shown)
      | inr b ↦ then.2 q m leads b k shown
    ],
  )
  nearest_of_both A B Among None None first then covers = λ q m leads among k shown. elim (covers m among) [
    | inl a ↦ first q m leads a k shown
    | inr b ↦ then q m leads b k shown
  ]

  -- once all moves are among them
  pub least_found : (Among : Move → Type 0) (least : Option ℕ) → IsNearest shows p Among least → ((m : Move) → IsLegal p m → Among m)
      → IfSome least (λ n. (n ≤ longest) × IsLeast chess p (λ q m k. shows q k) n)
  least_found Among (Some n) nearest all = (nearest.0, (nearest.1, λ q step k shown. nearest.2 q step.0 step.1 (all step.0 (q, step.1)) k shown))
  least_found Among None nearest all = tt

  pub nowhere_found : (Among : Move → Type 0) (least : Option ℕ) → IsNearest shows p Among least → ((m : Move) → IsLegal p m → Among m)
      → IfNone least (EachMove chess p (λ q. (k : ℕ) → ¬ shows q k))
  nowhere_found Among (Some n) nearest all = tt
  nowhere_found Among None nearest all = λ q step k shown. nearest q step.0 step.1 (all step.0 (q, step.1)) k shown

-- one move
pub nearest_of_one : (facts : Facts) (tables : Tables) (p : Setup) (only : Move) (x : ℕ) (number : Option ℕ) → IsAdmissible p → IsLegal p only → ((q : Setup) → Leads p only q → HasReachEntry tables q x)
    → IfSome number (λ n. ShowsReach x (Some n)) → IfNone number ((n : ℕ) → ¬ ShowsReach x (Some n)) → IsNearest (λ (q : Setup) (k : ℕ). ShowsReachOf tables q (Some k)) p (λ m. m ≡ only) number
nearest_of_one facts tables p only x number ok legal has some none = by number some none
  where
    shown : (q : Setup) (m : Move) → Leads p m q → m ≡ only → (k : ℕ) → ShowsReachOf tables q (Some k) → ShowsReach x (Some k)
    shown q m leads same k a =
        let there = subst (λ m. Leads p m q) same leads in
        let is = one_reach_entry facts tables q (facts.step_admissible p q only ok there) a.0 x a.1 (has q there) in
        subst (λ y. ShowsReach y (Some k)) is a.2

    by : (number : Option ℕ) → IfSome number (λ n. ShowsReach x (Some n)) → IfNone number ((n : ℕ) → ¬ ShowsReach x (Some n)) → IsNearest (λ (q : Setup) (k : ℕ). ShowsReachOf tables q (Some k)) p (λ m. m ≡ only) number
    by (Some n) shows none = (
      shows.0,
      (legal.0, (only, legal.1), (x, has legal.0 legal.1, shows)),
      λ q m leads same k a. let other = shown q m leads same k a in omega (arith, other.1, shows.1),
    )
    by None some none = λ q m leads same k a. none k (shown q m leads same k a)

-- who stands in no checkmate is not checkmated
pub stands_unmated : (p : Setup) (s : Standing) → StandsAs p s → (s ≡ Checkmate → ⊥) → ¬ chess.Checkmate p
stands_unmated p Checkmate stands other mate = other refl
stands_unmated p Stalemate stands other mate = stands.quiet mate.check
stands_unmated p HasMove stands other mate = mate.stuck stands.move stands.legal

module _ (shows : Setup → Option ℕ → Type 0) (p : Setup) (unmated : ¬ chess.Checkmate p) where
  abbrev Counts : (q : Setup) → chess.Move p q → ℕ → Type 0
  Counts q m k = shows q (Some k)

  -- one ply past the least number
  pub least_reach_due : (n : ℕ) → IsLeast chess p Counts n → IsReachDue shows p (n + 3)
  least_reach_due n least (Some zero) = ((λ mate. absurd (unmated mate)), (λ e. absurd (omega (arith, e))))
  least_reach_due n least (Some (suc k)) = (
    (λ fits.
        let above = least.1 fits.1.0.0 fits.1.0.1 k fits.1.0.2 in
        let below = fits.1.1 least.0.0 least.0.1 n least.0.2 in
        omega (arith, above, below)),
    (λ e. let same : n ≡ k = omega (arith, e) in (unmated, subst (IsLeast chess p Counts) same least)),
  )
  least_reach_due n least None = ((λ fits. absurd (fits.1 least.0.0 least.0.1 n least.0.2)), (λ e. absurd (omega (arith, e))))

  -- where none is shown, there is none
  pub no_reach_due : EachMove chess p (λ q. (k : ℕ) → ¬ shows q (Some k)) → IsReachDue shows p 1
  no_reach_due none h = grind arith
