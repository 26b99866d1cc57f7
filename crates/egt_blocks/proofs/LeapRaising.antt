-- Blocks of scores after a pawn's advances, by whether they leave a target.
use Rattle.std.proofs.Common.{◌≡◌, ◌≢◌, ℕ, ◌-◌, ◌<◌, ◌↔◌, Bool, true, false, cond, eqb, min, List, None, arith, sym, ap}
use Rattle.std.proofs.Common.{◌∙◌, subst, inl, inr, slice_index}
use Rattle.egt_blocks.specs.Prelude.{bit_at, cases_eq, ne_eqb, eqb_tells, bit_at-lt, bit_at_ones, other_side, Advances}
use Rattle.egt_blocks.specs.Prelude.{IsBeside, last_rank, pawn_of, rank_of, Man, Side, IsSomeTurnedCodeWith, ShelfMen}
use Rattle.egt_blocks.specs.Prelude.{kept_or_none, one_or_two_squares, raised_among, AdvancesBy, at, IsRaised}
use Rattle.egt_blocks.specs.Prelude.{FitsPromotion, promotes, AreLeapCodes, AreStepCodes, AreTwoRanksApart}
use Rattle.egt_blocks.specs.Prelude.{LeavesTarget, IsBesideWhere, leap_rank, AreAdvancedCodes, IsAdvance, stand_after}
use Rattle.egt_blocks.specs.Prelude.{IsClear, IsReadWith, one_off_home, unpromoted}
use Rattle.egt_blocks.proofs.AdvanceRaising.{advances_free}
use Rattle.egt_blocks.proofs.BlockRaising.{raised_alike, raised_both}
use Rattle.egt_blocks.proofs.QuietRaising.{raised_through}

-- the squares that a set lacks
pub others_lack : (set rest t : ℕ) (In : Type 0) → t < 64 → (bit_at set t ≡ 1) ↔ In → rest ≡ min (bit_at 18446744073709551615 t) (1 - bit_at set t) → (rest ≡ 1) ↔ (¬ In)
others_lack set rest t In t_in has is =
    let all = bit_at_ones 64 t t_in in
    let few = bit_at-lt set t in (
      (λ one here. let in_set = has.1 here in omega (arith, is, one, in_set)),
      (λ out. elim (cases_eq (bit_at set t) 1) [
        | inl in_set ↦ absurd (out (has.0 in_set))
        | inr not ↦ omega (arith, is, all, few, not)
      ]),
    )

-- those of a rank
pub on_rank : (bit r k : ℕ) → bit ≡ cond (eqb r k) 1 0 → (bit ≡ 1) ↔ (r ≡ k)
on_rank bit r k is = elim (eqb_tells r k) [
  | inl same ↦ ((λ has. same.1), (λ here. is ∙ ap (λ b. cond b 1 0) same.0))
  | inr apart ↦ ((λ has. absurd (let none = is ∙ ap (λ b. cond b 1 0) apart.0 in omega (arith, has, none))), (λ here. absurd (apart.1 here)))
]

-- ---- advances by one square and by two

two_apart : (F : ℕ → Type 0) (side : Side) (s t : ℕ) → AdvancesBy 2 F side s t → AreTwoRanksApart s t
two_apart h0 h1 s t r = grind arith

not_apart : (F : ℕ → Type 0) (side : Side) (s t : ℕ) → AdvancesBy 1 F side s t → ¬ AreTwoRanksApart s t
not_apart h0 h1 s t r apart = grind arith

-- they end on one rank
leaps_to : (F : ℕ → Type 0) (side : Side) (s t : ℕ) → AdvancesBy 2 F side s t → rank_of t ≡ leap_rank side
leaps_to h0 h1 s t r = grind (arith, one_off_home, rank_of)

fits_unpromoted : (last : Bool) → last ≡ false → FitsPromotion last None
fits_unpromoted last is = grind arith

-- only which squares are free counts
by_free : (n : ℕ) (F G : ℕ → Type 0) (side : Side) (s t : ℕ) → ((u : ℕ) → u < 64 → F u → G u) → AdvancesBy n F side s t → AdvancesBy n G side s t
by_free n F G side s t free r = record { advances = advances_free F G side s t free r.advances; away = r.away }

-- a lane raised where a pawn advances so to one of these squares
pub arrived_by : (n : ℕ) (F G : ℕ → Type 0) (In : ℕ → Type 0) (side : Side) (s arrivals low high : ℕ) (row arrived : List ℕ) → ((u : ℕ) → u < 64 → F u ↔ G u) → ((u : ℕ) → u < 64 → (bit_at arrivals u ≡ 1) ↔ In u)
    → ((u : ℕ) → u < 64 → slice_index arrived u ≡ cond (eqb (bit_at arrivals u) 1) (slice_index row u) 0)
    → IsRaised low (λ t. AdvancesBy n F side s t) (slice_index arrived) high → IsRaised low (λ t. AdvancesBy n G side s t × In t) (slice_index row) high
arrived_by n F G In side s arrivals low high row arrived same are keeps raised =
    raised_alike low high (λ t. AdvancesBy n G side s t × (bit_at arrivals t ≡ 1)) (λ t. AdvancesBy n G side s t × In t) (slice_index row)
    (raised_among low high (λ t. AdvancesBy n G side s t) (λ t. bit_at arrivals t ≡ 1) (slice_index row) (slice_index arrived)
    (λ t h. kept_or_none arrivals t (slice_index row t) (slice_index arrived t) (keeps t h.away.on_board))
    (raised_alike low high (λ t. AdvancesBy n F side s t) (λ t. AdvancesBy n G side s t) (slice_index arrived) raised
    (λ t. by_free n G F side s t (λ u u_in. (same u u_in).1))
    (λ t. by_free n F G side s t (λ u u_in. (same u u_in).0))))
    (λ t h. (h.0, (are t h.0.away.on_board).1 h.1))
    (λ t h. (h.0, (are t h.0.away.on_board).0 h.1))

-- ---- codes after them

module _ (c : ℕ) (worth : ℕ → ℕ) (first : Bool) (men : ShelfMen) (side : Side) (a b : ℕ) where
  abbrev pub Steps : ℕ → Type 0
  Steps = AreStepCodes c first men side a b

  abbrev pub Leaps : ℕ → Type 0
  Leaps = AreLeapCodes c first men side a b

  -- a man who is no pawn of the other side takes nothing in passing
  no_target : men.first ≢ pawn_of (other_side side) → (u : ℕ) → ¬ LeavesTarget men side a b u
  no_target other u leaves = other (λ i. record { side = leaves.theirs i; kind = leaves.pawn i })

  pub steps_alone : men.first ≢ pawn_of (other_side side) → (v : ℕ) → IsRaised 0 (AreAdvancedCodes c first false men side None a b) worth v → IsRaised 0 Steps worth v
  steps_alone other v raised = raised_alike 0 v (AreAdvancedCodes c first false men side None a b) Steps worth raised (λ code h. (h.0, h.1, h.3)) (λ code h. (h.0, h.1, no_target other h.0, h.2))

  module _ (mine : men.last ≡ pawn_of side) (theirs : men.first ≡ pawn_of (other_side side)) (scores : List (List ℕ)) (a_in : a < 64) where
    abbrev Goes : (n u : ℕ) → Type 0
    Goes n u = AdvancesBy n (IsClear men a) side b u

    abbrev last_at : ℕ → Bool
    last_at u = eqb (rank_of u) (last_rank side)

    advance_of : (u : ℕ) → Advances (IsClear men a) side b u → FitsPromotion (last_at u) None → IsAdvance men side a b None u
    advance_of u advances fits = record {
      pawn = ap (λ (x : Man). x.kind) mine;
      mine = ap (λ (x : Man). x.side) mine;
      advances = advances;
      fits = subst (λ x. FitsPromotion x None) (sym (ap (λ (x : Man). promotes x u) mine)) fits;
    }

    leap_of : (u : ℕ) → Goes 2 u → IsAdvance men side a b None u
    leap_of u goes = advance_of u goes.advances (fits_unpromoted (last_at u) (ne_eqb (rank_of u) (last_rank side) (unpromoted (IsClear men a) side b u goes.advances (two_apart (IsClear men a) side b u goes))))

    leaves : (u : ℕ) → Goes 2 u → IsBeside a u → LeavesTarget men side a b u
    leaves u goes beside = record { pawn = ap (λ (x : Man). x.kind) theirs; theirs = ap (λ (x : Man). x.side) theirs; two = two_apart (IsClear men a) side b u goes; beside = beside }

    abbrev Codes : (targeted : Bool) (u code : ℕ) → Type 0
    Codes targeted u code = IsSomeTurnedCodeWith targeted c code false (stand_after first false men a men.last u) (other_side side)

    abbrev Near : (arrivals u : ℕ) → Type 0
    Near arrivals u = Goes 1 u × (bit_at arrivals u ≡ 1)

    abbrev Far : (beside : Bool) (u : ℕ) → Type 0
    Far beside u = Goes 2 u × IsBesideWhere beside a u

    -- codes after these advances
    After : (In : ℕ → Type 0) (targeted : Bool) → ℕ → Type 0
    After In targeted code = (u : ℕ) × In u × Codes targeted u code

    pub all_steps : ((i u : ℕ) → i < 64 → u < 64 → IsReadWith false c worth false (stand_after first false men i men.last u) (other_side side) (at scores i u)) → (arrivals : ℕ) → ((u : ℕ) → u < 64 → (bit_at arrivals u ≡ 1) ↔ FitsPromotion (eqb (rank_of u) (last_rank side)) None)
        → (low mid v : ℕ) → low ≡ 0 → IsRaised low (λ u. AdvancesBy 1 (IsClear men a) side b u × (bit_at arrivals u ≡ 1)) (λ u. at scores a u) mid → IsRaised mid (λ u. AdvancesBy 2 (IsClear men a) side b u × IsBesideWhere false a u) (λ u. at scores a u) v → IsRaised 0 Steps worth v
    unfolding After
    all_steps read arrivals are low mid v none one two =
        raised_both 0 mid v (After (Near arrivals) false) (After (Far false) false) Steps worth
        (raised_through 0 mid (Near arrivals) (Codes false) worth (λ u. at scores a u) (λ u h. read a u a_in h.0.away.on_board) (subst (λ n. IsRaised n (Near arrivals) (λ u. at scores a u) mid) none one))
        (raised_through mid v (Far false) (Codes false) worth (λ u. at scores a u) (λ u h. read a u a_in h.0.away.on_board) two)
        (λ code h. elim (one_or_two_squares (IsClear men a) side b h.0 h.1.advances) [
          | inl near ↦ inl (h.0, (near, (are h.0 near.away.on_board).1 (subst (λ x. FitsPromotion x None) (ap (λ (x : Man). promotes x h.0) mine) h.1.fits)), h.3)
          | inr far ↦ inr (h.0, (far, λ beside. h.2 (leaves h.0 far beside)), h.3)
        ])
        (λ code h. (h.0, advance_of h.0 h.1.0.advances ((are h.0 h.1.0.away.on_board).0 h.1.1), (λ left. not_apart (IsClear men a) side b h.0 h.1.0 left.two), h.2))
        (λ code h. (h.0, leap_of h.0 h.1.0, (λ left. h.1.1 left.beside), h.2))

    pub all_leaps : ((i u : ℕ) → i < 64 → u < 64 → rank_of i ≡ leap_rank side → rank_of u ≡ leap_rank side → IsReadWith true c worth false (stand_after first false men i men.last u) (other_side side) (at scores i u))
        → (low v : ℕ) → low ≡ 0 → IsRaised low (λ u. AdvancesBy 2 (IsClear men a) side b u × IsBesideWhere true a u) (λ u. at scores a u) v → IsRaised 0 Leaps worth v
    unfolding After
    all_leaps read low v none two =
        raised_alike 0 v (After (Far true) true) Leaps worth
        (raised_through 0 v (Far true) (Codes true) worth (λ u. at scores a u) (λ u h. let there = leaps_to (IsClear men a) side b u h.0 in read a u a_in h.0.away.on_board (h.1.0 ∙ there) there) (subst (λ n. IsRaised n (Far true) (λ u. at scores a u) v) none two))
        (λ code h. elim (one_or_two_squares (IsClear men a) side b h.0 h.1.advances) [
          | inl near ↦ absurd (not_apart (IsClear men a) side b h.0 near h.2.two)
          | inr far ↦ (h.0, (far, h.2.beside), h.3)
        ])
        (λ code h. (h.0, leap_of h.0 h.1.0, leaves h.0 h.1.0 h.1.1, h.2))
