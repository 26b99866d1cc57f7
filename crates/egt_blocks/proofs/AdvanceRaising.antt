-- Blocks of scores after a pawn's moves.
use Rattle.std.proofs.Common.{◌≡◌, ◌≢◌, ℕ, ◌-◌, ◌<◌, ◌↔◌, Bool, true, cond, eqb, min, List, Option, Some, None, arith}
use Rattle.std.proofs.Common.{refl, sym, ap, ◌∙◌, subst, slice_index}
use Rattle.egt_blocks.specs.Prelude.{bit_at, bit_at_ones, Reaches, Rides-free, other_side, Advances, farthest_advance}
use Rattle.egt_blocks.specs.Prelude.{forward, last_rank, pawn_of, rank_of, Kind, Man, Side, IsSomeTurnedCode, ShelfMen}
use Rattle.egt_blocks.specs.Prelude.{kept_or_none, raised_among, at, IsRaised, FitsPromotion, IsOfficer, arriving}
use Rattle.egt_blocks.specs.Prelude.{promotes, AreAdvancedCodes, ArePromotedCodes, men_after, officer_of, stand_after}
use Rattle.egt_blocks.specs.Prelude.{stand_on, IsClear, IsPastKings, left_of, stand_left, IsRead, IsReadWith}
use Rattle.egt_blocks.proofs.BlockRaising.{raised_alike}
use Rattle.egt_blocks.proofs.QuietRaising.{left_without, raised_through}

-- ---- the men after an advance

-- read in the order in which the class names them
pub after_in_order : (c : ℕ) (worth : ℕ → ℕ) (targeted before flips : Bool) (men : ShelfMen) (man : Man) (side : Side) (a t w : ℕ) (after : ShelfMen) (other : Side) → after ≡ men_after before flips men man → other ≡ side
    → IsReadWith targeted c worth flips (cond before (stand_on after t a) (stand_on after a t)) other w → IsReadWith targeted c worth flips (stand_after before flips men a man t) side w
after_in_order c worth targeted before flips men man side a t w after other after_is side_is read = grind (arith, stand_on, men_after, stand_after)

-- ---- sets of squares

-- of the squares that a set lacks
pub lacked : (kings past u : ℕ) → u < 64 → past ≡ min (bit_at 18446744073709551615 u) (1 - bit_at kings u) → (past ≡ 1) ↔ (bit_at kings u ≡ 0)
lacked kings past u u_in is = let all = bit_at_ones 64 u u_in in ((λ has. omega (arith, is, has)), (λ none. omega (arith, is, all, none)))

-- of those past the kings without one more
pub clear_without : (men : ShelfMen) (past free other : ℕ) → ((u : ℕ) → u < 64 → (bit_at past u ≡ 1) ↔ IsPastKings men u) → bit_at free other ≡ 0 → ((u : ℕ) → u ≢ other → bit_at free u ≡ bit_at past u)
    → (u : ℕ) → u < 64 → (bit_at free u ≡ 1) ↔ IsClear men other u
clear_without men past free other are gone others u u_in = (
  (λ has.
      let before = left_without past free other u gone others has in
      let clear = (are u u_in).0 before.0 in (clear.0, clear.1, before.1)),
  (λ clear. others u clear.2 ∙ (are u u_in).1 (clear.0, clear.1)),
)

-- where a pawn is promoted, and where not
pub arrives_promoted : (last : Bool) (bit : ℕ) (kind : Kind) → IsOfficer kind → bit ≡ cond last 1 0 → (bit ≡ 1) ↔ FitsPromotion last (Some kind)
arrives_promoted h0 bit kind officer is = grind arith

pub arrives_unpromoted : (last : Bool) (bit : ℕ) → bit ≡ min 1 (1 - cond last 1 0) → (bit ≡ 1) ↔ FitsPromotion last None
arrives_unpromoted h0 bit is = grind arith

-- only which squares are free counts
pub advances_free : (F G : ℕ → Type 0) (side : Side) (s t : ℕ) → ((u : ℕ) → u < 64 → F u → G u) → Advances F side s t → Advances G side s t
advances_free F G side s t free r = record { rides = Rides-free F G (farthest_advance side s) s t (forward side) free r.rides; free = free t r.rides.away.on_board r.free }

-- ---- advances

-- a lane raised where a pawn advances to one of these squares
pub arrived_raised : (F G : ℕ → Type 0) (side : Side) (s arrivals low high : ℕ) (row arrived : List ℕ) → ((u : ℕ) → u < 64 → F u ↔ G u) → ((u : ℕ) → u < 64 → slice_index arrived u ≡ cond (eqb (bit_at arrivals u) 1) (slice_index row u) 0)
    → IsRaised low (λ t. Advances F side s t) (slice_index arrived) high → IsRaised low (λ t. Advances G side s t × (bit_at arrivals t ≡ 1)) (slice_index row) high
arrived_raised h0 h1 side s arrivals low high row arrived same keeps raised = grind (arith, raised_among, bit_at, kept_or_none, raised_alike, advances_free)

module _ (c : ℕ) (worth : ℕ → ℕ) (before flips : Bool) (men : ShelfMen) (side : Side) (promo : Option Kind) (a b : ℕ) where
  abbrev pub Advanced : ℕ → Type 0
  Advanced = AreAdvancedCodes c before flips men side promo a b

  module _ (mine : men.last ≡ pawn_of side) (arrivals : ℕ) (are : (u : ℕ) → u < 64 → (bit_at arrivals u ≡ 1) ↔ FitsPromotion (eqb (rank_of u) (last_rank side)) promo) (man : Man) (man_is : man ≡ arriving men.last promo)
      (scores : List (List ℕ)) (read : (i u : ℕ) → i < 64 → u < 64 → bit_at arrivals u ≡ 1 → IsRead c worth flips (stand_after before flips men i man u) (other_side side) (at scores i u)) (a_in : a < 64) where
    -- he advances there, and it is one of these squares
    abbrev Arrives : ℕ → Type 0
    Arrives u = Advances (IsClear men a) side b u × (bit_at arrivals u ≡ 1)

    abbrev Codes : ℕ → ℕ → Type 0
    Codes u code = IsSomeTurnedCode c code flips (stand_after before flips men a man u) (other_side side)

    last_is : (u : ℕ) → promotes men.last u ≡ eqb (rank_of u) (last_rank side)
    last_is u = ap (λ (x : Man). promotes x u) mine

    advance_there : (code : ℕ) → Advanced code → (u : ℕ) × Arrives u × Codes u code
    advance_there code h = (
      h.0,
      (h.1.advances, (are h.0 h.1.advances.rides.away.on_board).1 (subst (λ x. FitsPromotion x promo) (last_is h.0) h.1.fits)),
      subst (λ (x : Man). IsSomeTurnedCode c code flips (stand_after before flips men a x h.0) (other_side side)) (sym man_is) h.2,
    )

    advance_back : (code : ℕ) → (u : ℕ) × Arrives u × Codes u code → Advanced code
    advance_back code h = (
      h.0,
      record {
        pawn = ap (λ (x : Man). x.kind) mine;
        mine = ap (λ (x : Man). x.side) mine;
        advances = h.1.0;
        fits = subst (λ x. FitsPromotion x promo) (sym (last_is h.0)) ((are h.0 h.1.0.rides.away.on_board).0 h.1.1);
      },
      subst (λ (x : Man). IsSomeTurnedCode c code flips (stand_after before flips men a x h.0) (other_side side)) man_is h.2,
    )

    pub all_advances : (low v : ℕ) → low ≡ 0 → IsRaised low Arrives (λ u. at scores a u) v → IsRaised 0 Advanced worth v
    all_advances low v none raised = grind (arith, raised_alike, raised_through, at, advance_there, advance_back)

-- ---- captures that promote

bit_true : (x : Bool) (bit : ℕ) → bit ≡ cond x 1 0 → bit ≡ 1 → x ≡ true
bit_true x bit is one = grind arith

module _ (c : ℕ) (worth : ℕ → ℕ) (flips : Bool) (men : ShelfMen) (side : Side) (kind : Kind) (a b : ℕ) where
  abbrev pub Promoted : ℕ → Type 0
  Promoted = ArePromotedCodes c flips men side kind a b

  module _ (officer : IsOfficer kind) (mine : men.last ≡ pawn_of side) (theirs : men.first.side ≡ other_side side) (lasts : ℕ) (are : (u : ℕ) → u < 64 → bit_at lasts u ≡ cond (eqb (rank_of u) (last_rank side)) 1 0) (scores arrived : List ℕ)
      (keeps : (u : ℕ) → u < 64 → slice_index arrived u ≡ cond (eqb (bit_at lasts u) 1) (slice_index scores u) 0)
      (read : (u : ℕ) → u < 64 → IsRead c worth flips (stand_left flips (left_of men (officer_of side kind) u)) (other_side side) (slice_index scores u)) (a_in : a < 64) where
    -- he takes on a
    abbrev Takes : ℕ → Type 0
    Takes u = (u ≡ a) × Reaches (IsPastKings men) men.last b u

    abbrev TakesLast : ℕ → Type 0
    TakesLast u = Takes u × (bit_at lasts u ≡ 1)

    abbrev Left : ℕ → ℕ → Type 0
    Left u code = IsSomeTurnedCode c code flips (stand_left flips (left_of men (officer_of side kind) u)) (other_side side)

    rank_is : promotes men.last a ≡ eqb (rank_of a) (last_rank side)
    rank_is = ap (λ (x : Man). promotes x a) mine

    to_last : promotes men.last a ≡ true → bit_at lasts a ≡ 1
    to_last last = are a a_in ∙ ap (λ x. cond x 1 0) (sym rank_is ∙ last)

    of_last : bit_at lasts a ≡ 1 → promotes men.last a ≡ true
    of_last has = rank_is ∙ bit_true (eqb (rank_of a) (last_rank side)) (bit_at lasts a) (are a a_in) has

    in_board : (u : ℕ) → u ≡ a → u < 64
    in_board u same = omega (arith, same, a_in)

    capture_there : (code : ℕ) → Promoted code → (u : ℕ) × TakesLast u × Left u code
    capture_there code h = (a, ((refl, h.0.reaches), to_last h.0.last), h.1)

    capture_back : (code : ℕ) → (u : ℕ) × TakesLast u × Left u code → Promoted code
    capture_back code h =
        let same = h.1.0.0 in (
          record {
            pawn = ap (λ (x : Man). x.kind) mine;
            mine = ap (λ (x : Man). x.side) mine;
            theirs = theirs;
            reaches = subst (Reaches (IsPastKings men) men.last b) same h.1.0.1;
            last = of_last (subst (λ u. bit_at lasts u ≡ 1) same h.1.1);
            officer = officer;
          },
          subst (λ u. Left u code) same h.2,
        )

    pub all_captures : (low v : ℕ) → low ≡ 0 → IsRaised low Takes (slice_index arrived) v → (w : ℕ) → w ≡ v → IsRaised 0 Promoted worth w
    all_captures low v none raised w is =
        let among = raised_among 0 v Takes (λ u. bit_at lasts u ≡ 1) (slice_index scores) (slice_index arrived) (λ u h. kept_or_none lasts u (slice_index scores u) (slice_index arrived u) (keeps u (in_board u h.0)))
        (subst (λ n. IsRaised n Takes (slice_index arrived) v) none raised) in
        subst (IsRaised 0 Promoted worth) (sym is) (raised_alike 0 v (λ code. (u : ℕ) × TakesLast u × Left u code) Promoted worth (raised_through 0 v TakesLast Left worth (slice_index scores) (λ u h. read u (in_board u h.0.0)) among) capture_there capture_back)
