-- Blocks raised turn by turn.
use Rattle.std.proofs.Common.{◌≡◌, ◌≢◌, ℕ, ◌/◌, ◌%◌, ◌<◌, ◌⊎◌, ◌↔◌, max, not, cond, ltb, eqb, IsTrue, Bool, true, false}
use Rattle.std.proofs.Common.{List, [], ◌∷◌, Option, Some, None, IfSome, arith, refl, sym, ap, ◌∙◌, inl, inr, subst}
use Rattle.egt_blocks.specs.Prelude.{cases_eq, cases_lt, false≢true, ltb-true, bit_at_ones, bit_at, Has, turned_square}
use Rattle.egt_blocks.specs.Prelude.{all_below, passes_below, Man, Side, White, Black, SquareSet, has_equal_sides}
use Rattle.egt_blocks.specs.Prelude.{material_of, king_square, men_at, AreHome, IsTurnWith, has_pawns, king_base}
use Rattle.egt_blocks.specs.Prelude.{men_bases, list_of, IsSomeTurnedCodeWith, swapped, turned_by, ShelfMen, Stand, at}
use Rattle.egt_blocks.specs.Prelude.{IsRaised, Column, IsBesideKing, stand_on, with_king, IsCodeAfter, IsHomeCode}
use Rattle.egt_blocks.specs.Prelude.{IsRaisedHome, men_across, AreKept, IsReadWith, BlockKey}
use Rattle.egt_board.proofs.Parts.{heads}

-- all squares are of the set of all
pub all_squares : (s : ℕ) → s < 64 → bit_at 18446744073709551615 s ≡ 1
all_squares s s_in = bit_at_ones 64 s s_in

-- ---- the greatest of some numbers

-- nothing rises by numbers that are 0
pub raised_by_zeros : (low : ℕ) (In : ℕ → Type 0) (f : ℕ → ℕ) → ((t : ℕ) → In t → f t ≡ 0) → IsRaised low In f low
raised_by_zeros low In f zeros = record { kept = omega arith; above = λ t here. let zero = zeros t here in omega (arith, zero); reached = inl refl }

pub raised_by_none : (low : ℕ) (In : ℕ → Type 0) (f : ℕ → ℕ) → ((t : ℕ) → ¬ In t) → IsRaised low In f low
raised_by_none low In f none = raised_by_zeros low In f (λ t here. absurd (none t here))

-- what rose from nothing, beside another number
pub raised_max : (low : ℕ) (In : ℕ → Type 0) (f : ℕ → ℕ) (v high : ℕ) → IsRaised 0 In f v → high ≡ max low v → IsRaised low In f high
raised_max low In f v high raised is = record {
  kept = omega (arith, is);
  above = λ t here. let le = raised.above t here in omega (arith, is, le);
  reached = elim (cases_lt low v) [
    | inr le ↦ inl (omega (arith, is, le))
    | inl less ↦ elim raised.reached [
      | inl zero ↦ absurd (omega (arith, zero, less))
      | inr h ↦ inr (h.0, h.1, (let from = h.2 in omega (arith, is, less, from)))
    ]
  ];
}

-- by some and then by others
pub raised_both : (low mid high : ℕ) (A B In : ℕ → Type 0) (f : ℕ → ℕ) → IsRaised low A f mid → IsRaised mid B f high → ((t : ℕ) → In t → A t ⊎ B t) → ((t : ℕ) → A t → In t) → ((t : ℕ) → B t → In t) → IsRaised low In f high
raised_both low mid high A B In f first then covers a_in b_in = record {
  kept = omega (arith, first.kept, then.kept);
  above = λ t here. elim (covers t here) [
    | inl a ↦ let le = first.above t a in omega (arith, le, then.kept)
    | inr b ↦ then.above t b
  ];
  reached = elim then.reached [
    | inr h ↦ inr (h.0, b_in h.0 h.1, h.2)
    | inl same ↦ elim first.reached [
      | inl unchanged ↦ inl (same ∙ unchanged)
      | inr h ↦ inr (h.0, a_in h.0 h.1, same ∙ h.2)
    ]
  ];
}

pub raised_alike : (low high : ℕ) (A In : ℕ → Type 0) (f : ℕ → ℕ) → IsRaised low A f high → ((t : ℕ) → In t → A t) → ((t : ℕ) → A t → In t) → IsRaised low In f high
raised_alike low high A In f raised covers a_in = record {
  kept = raised.kept;
  above = λ t here. raised.above t (covers t here);
  reached = elim raised.reached [ inl same ↦ inl same | inr h ↦ inr (h.0, a_in h.0 h.1, h.2) ];
}

-- ---- a turn keeps squares on the board

stays : Bool → ℕ → ℕ → Bool
stays flips n s = ltb (turned_square n flips s) 64

all_stay : (flips : Bool) → all_below (λ n. all_below (stays flips n) 64) 8 ≡ true
unfolding all_below stays
all_stay true = refl
all_stay false = refl

pub turned_in : (flips : Bool) (n s : ℕ) → n < 8 → s < 64 → turned_square n flips s < 64
unfolding stays
turned_in flips n s n_in s_in = ltb-true _ _ (passes_below (stays flips n) 64 s (passes_below (λ n. all_below (stays flips n) 64) 8 n (all_stay flips) n_in) s_in)

-- ---- the turns that bring the white king home

-- the white king of a code's men is at home
king_at_home : (targeted : Bool) (c t code : ℕ) (stand : Stand) (side : Side) → IsCodeAfter targeted c t code stand side → (d : ℕ) × (d < king_base (has_pawns (material_of c))) × (king_square (has_pawns (material_of c)) d ≡ turned_square (t % 8) (eqb (t / 8) 1) stand.white)
king_at_home targeted c t code stand side tells = grind (arith, men_bases, material_of, list_of, turned_by, men_at, king_base, has_pawns, king_square, turned_square, eqb, heads)

module _ (targeted : Bool) (c : ℕ) (flips : Bool) (stand : Stand) (side : Side) (first : ℕ) (second : Option ℕ) (home : AreHome (has_pawns (material_of c)) flips stand.white first second) where
  -- such a turn is one of the one or two
  one_of_them : (t code : ℕ) → IsTurnWith (has_pawns (material_of c)) flips t → IsCodeAfter targeted c t code stand side → t ≢ first → IfSome second (λ u. t ≢ u) → ⊥
  one_of_them t code turn tells other others = grind (arith, turn, king_at_home, king_square, has_pawns, material_of, turned_square)

  after : (t code : ℕ) (u : ℕ) → t ≡ u → IsCodeAfter targeted c t code stand side → IsCodeAfter targeted c u code stand side
  after t code u same tells = subst (λ k. IsCodeAfter targeted c k code stand side) same tells

pub home_by_one : (targeted : Bool) (c : ℕ) (flips : Bool) (stand : Stand) (side : Side) (first : ℕ) → AreHome (has_pawns (material_of c)) flips stand.white first None → (low high : ℕ) (f : ℕ → ℕ)
    → IsRaised low (λ code. IsCodeAfter targeted c first code stand side) f high → IsRaised low (λ code. IsHomeCode targeted c code flips stand side) f high
home_by_one targeted c flips stand side first home low high f raised = raised_alike low high (λ code. IsCodeAfter targeted c first code stand side) (λ code. IsHomeCode targeted c code flips stand side) f raised
    (λ code h. elim (cases_eq h.0 first) [
      | inl same ↦ after targeted c flips stand side first None home h.0 code first same h.2
      | inr other ↦ absurd (one_of_them targeted c flips stand side first None home h.0 code h.1 h.2 other tt)
    ])
    (λ code tells. (first, home.one, tells))

pub home_by_two : (targeted : Bool) (c : ℕ) (flips : Bool) (stand : Stand) (side : Side) (first second : ℕ) → AreHome (has_pawns (material_of c)) flips stand.white first (Some second) → (low mid high : ℕ) (f : ℕ → ℕ)
    → IsRaised low (λ code. IsCodeAfter targeted c first code stand side) f mid → IsRaised mid (λ code. IsCodeAfter targeted c second code stand side) f high → IsRaised low (λ code. IsHomeCode targeted c code flips stand side) f high
home_by_two targeted c flips stand side first second home low mid high f one two =
    raised_both low mid high (λ code. IsCodeAfter targeted c first code stand side) (λ code. IsCodeAfter targeted c second code stand side) (λ code. IsHomeCode targeted c code flips stand side) f one two
    (λ code h. elim (cases_eq h.0 first) [
      | inl same ↦ inl (after targeted c flips stand side first (Some second) home h.0 code first same h.2)
      | inr other ↦ elim (cases_eq h.0 second) [
        | inl same ↦ inr (after targeted c flips stand side first (Some second) home h.0 code second same h.2)
        | inr not ↦ absurd (one_of_them targeted c flips stand side first (Some second) home h.0 code h.1 h.2 other not)
      ]
    ])
    (λ code tells. (first, home.one, tells))
    (λ code tells. (second, home.other, tells))

-- ---- all codes of the men

men_equal : {a b : Man} → a ∷ [] ≡ b ∷ [] → a ≡ b
men_equal e = cc

module _ (targeted : Bool) (c : ℕ) (flips : Bool) (side : Side) (code : ℕ) (men : ShelfMen) (a b : ℕ) where
  -- by some turn of the class's colours, of the men in the other order, or across
  pub some_parted : IsSomeTurnedCodeWith targeted c code flips (stand_on men a b) side
      → IsHomeCode targeted c code flips (stand_on men a b) side ⊎ (((men.first ≡ men.last) × IsHomeCode targeted c code flips (stand_on men b a) side) ⊎ (IsTrue (has_equal_sides c) × IsHomeCode targeted c code (not flips) (stand_on (men_across men) b a) side))
  some_parted some = elim some.seen [
    | inl own ↦ elim own.1 [
      | inl same ↦ inl (some.turn, turn own.0, subst (λ (s : Stand). IsCodeAfter targeted c some.turn code s side) same some.is.tells)
      | inr other ↦
          let equal = men_equal other.1 in
          inr (inl (equal, (some.turn, turn own.0, subst (λ (s : Stand). IsCodeAfter targeted c some.turn code s side) (other.0 ∙ order equal) some.is.tells)))
    ]
    | inr across ↦ inr (inr (across.0, (some.turn, turn across.1, subst (λ (s : Stand). IsCodeAfter targeted c some.turn code s side) across.2 some.is.tells)))
  ]
    where
      turn : {f : Bool} → eqb (some.turn / 8) 1 ≡ f → IsTurnWith (has_pawns (material_of c)) f some.turn
      turn is = record { below = some.is.below; flips_is = is; keeps = some.is.keeps }

      order : men.first ≡ men.last → swapped (stand_on men a b) ≡ stand_on men b a
      order equal = λ i. record { white = men.white; black = men.black; first = Some (sym equal i, b); last = Some (equal i, a) }

  home_is_some : IsHomeCode targeted c code flips (stand_on men a b) side → IsSomeTurnedCodeWith targeted c code flips (stand_on men a b) side
  home_is_some h = record { turn = h.0; after = stand_on men a b; seen = inl (h.1.flips_is, inl refl); is = record { below = h.1.below; keeps = h.1.keeps; tells = h.2 } }

  other_is_some : men.first ≡ men.last → IsHomeCode targeted c code flips (stand_on men b a) side → IsSomeTurnedCodeWith targeted c code flips (stand_on men a b) side
  other_is_some equal h = record { turn = h.0; after = stand_on men b a; seen = inl (h.1.flips_is, inr (order, ap (λ (m : Man). m ∷ []) equal)); is = record { below = h.1.below; keeps = h.1.keeps; tells = h.2 } }
    where
      order : stand_on men b a ≡ swapped (stand_on men a b)
      order = λ i. record { white = men.white; black = men.black; first = Some (equal i, b); last = Some (sym equal i, a) }

  across_is_some : IsTrue (has_equal_sides c) → IsHomeCode targeted c code (not flips) (stand_on (men_across men) b a) side → IsSomeTurnedCodeWith targeted c code flips (stand_on men a b) side
  across_is_some equal h = record { turn = h.0; after = stand_on (men_across men) b a; seen = inr (equal, h.1.flips_is, refl); is = record { below = h.1.below; keeps = h.1.keeps; tells = h.2 } }

-- the greater of two greatest
pub raised_greater : (u v w : ℕ) (A B In : ℕ → Type 0) (f : ℕ → ℕ) → IsRaised 0 A f u → IsRaised 0 B f v → w ≡ max u v → ((t : ℕ) → In t → A t ⊎ B t) → ((t : ℕ) → A t → In t) → ((t : ℕ) → B t → In t) → IsRaised 0 In f w
raised_greater u v w A B In f first then is covers a_in b_in = raised_both 0 u w A B In f first (raised_max u B f v w then is) covers a_in b_in

module _ (targeted : Bool) (c : ℕ) (worth : ℕ → ℕ) (men : ShelfMen) (flips : Bool) (side : Side) (rows : SquareSet) (own : List (List ℕ))
    (in_own : (a b : ℕ) → a < 64 → b < 64 → Has rows a → IsRaisedHome targeted c worth flips (stand_on men a b) side 0 (at own a b))
    (equal : Bool) (told : IsTrue equal ↔ (men.first ≡ men.last)) (all : equal ≡ true → (s : ℕ) → s < 64 → Has rows s) (a b : ℕ) (a_in : a < 64) (b_in : b < 64) (here : Has rows a)
    (low : ℕ) (low_is : low ≡ cond equal (max (at own a b) (at own b a)) (at own a b)) where
  Home : Bool → Stand → ℕ → Type 0
  Home exchanged stand code = IsHomeCode targeted c code exchanged stand side

  -- codes of the class's colours, in either order of equal men
  OwnCodes : ℕ → Type 0
  OwnCodes code = Home flips (stand_on men a b) code ⊎ ((men.first ≡ men.last) × Home flips (stand_on men b a) code)

  in_order : (e : Bool) → equal ≡ e → IsRaised 0 OwnCodes worth (cond e (max (at own a b) (at own b a)) (at own a b))
  unfolding OwnCodes Home
  in_order true is = raised_greater (at own a b) (at own b a) (max (at own a b) (at own b a)) (Home flips (stand_on men a b)) (Home flips (stand_on men b a)) OwnCodes worth (in_own a b a_in b_in here) (in_own b a b_in a_in (all is b b_in)) refl
      (λ code h. elim h [ inl first ↦ inl first | inr there ↦ inr there.1 ])
      (λ code first. inl first)
      (λ code there. inr (told.0 is, there))
  in_order false is = raised_alike 0 (at own a b) (Home flips (stand_on men a b)) OwnCodes worth (in_own a b a_in b_in here)
      (λ code h. elim h [ inl first ↦ first | inr there ↦ absurd (false≢true (sym is ∙ told.1 there.0)) ])
      (λ code first. inl first)

  own_raised : IsRaised 0 OwnCodes worth low
  own_raised = subst (IsRaised 0 OwnCodes worth) (sym low_is) (in_order equal refl)

  own_is_some : (code : ℕ) → OwnCodes code → IsSomeTurnedCodeWith targeted c code flips (stand_on men a b) side
  unfolding OwnCodes Home
  own_is_some code (inl first) = home_is_some targeted c flips side code men a b first
  own_is_some code (inr there) = other_is_some targeted c flips side code men a b there.0 there.1

  pub read_settled : (high : ℕ) → (has_equal_sides c ≡ false → high ≡ low) → (has_equal_sides c ≡ true → IsRaisedHome targeted c worth (not flips) (stand_on (men_across men) b a) side low high) → IsReadWith targeted c worth flips (stand_on men a b) side high
  unfolding OwnCodes Home
  read_settled high alone across = by (has_equal_sides c) refl
    where
      by : (sides : Bool) → has_equal_sides c ≡ sides → IsReadWith targeted c worth flips (stand_on men a b) side high
      by true is =
          raised_both 0 low high OwnCodes (Home (not flips) (stand_on (men_across men) b a)) (λ code. IsSomeTurnedCodeWith targeted c code flips (stand_on men a b) side) worth own_raised (across is)
          (λ code h. elim (some_parted targeted c flips side code men a b h) [
            | inl first ↦ inl (inl first)
            | inr (inl other) ↦ inl (inr other)
            | inr (inr beyond) ↦ inr beyond.1
          ])
          own_is_some
          (λ code beyond. across_is_some targeted c flips side code men a b is beyond)
      by false is =
          subst (IsReadWith targeted c worth flips (stand_on men a b) side) (sym (alone is))
          (raised_alike 0 low OwnCodes (λ code. IsSomeTurnedCodeWith targeted c code flips (stand_on men a b) side) worth own_raised
          (λ code h. elim (some_parted targeted c flips side code men a b h) [
            | inl first ↦ inl first
            | inr (inl other) ↦ inr other
            | inr (inr beyond) ↦ absurd (false≢true (sym is ∙ beyond.0))
          ])
          own_is_some)

-- ---- a king's steps

-- a square beside the king that is no longer left
abbrev pub GoneKing : ShelfMen → Side → SquareSet → ℕ → Type 0
GoneKing men side rest k = IsBesideKing men side k × (bit_at rest.bits k ≡ 0)

-- one square more is gone, and those left are still beside the king
module _ (men : ShelfMen) (side : Side) (rest after : SquareSet) (to : ℕ) (gone : bit_at after.bits to ≡ 0) (others : (t : ℕ) → t ≢ to → bit_at after.bits t ≡ bit_at rest.bits t) where
  pub gone_before : (k : ℕ) → GoneKing men side after k → GoneKing men side rest k ⊎ (k ≡ to)
  gone_before k h = elim (cases_eq k to) [ inl same ↦ inr same | inr other ↦ inl (h.0, sym (others k other) ∙ h.1) ]

  pub gone_after : (k : ℕ) → GoneKing men side rest k → GoneKing men side after k
  gone_after k h = elim (cases_eq k to) [ inl same ↦ (h.0, ap (bit_at after.bits) same ∙ gone) | inr other ↦ (h.0, others k other ∙ h.1) ]

  pub left_beside : ((k : ℕ) → k < 64 → Has rest k → IsBesideKing men side k) → (k : ℕ) → k < 64 → Has after k → IsBesideKing men side k
  left_beside beside k k_in has = elim (cases_eq k to) [
    | inl same ↦ absurd (let none = ap (bit_at after.bits) same ∙ gone in omega (arith, has, none))
    | inr other ↦ beside k k_in (sym (others k other) ∙ has)
  ]

-- the same men beside the kings
pub same_beside : (men : ShelfMen) (side : Side) (k : ℕ) → ((with_king men side k).first ≡ men.first) × ((with_king men side k).last ≡ men.last)
same_beside men side k = grind arith

-- one step more
pub one_more : (Codes : (k code : ℕ) → Type 0) (A In : ℕ → Type 0) (to low high : ℕ) (f : ℕ → ℕ) → IsRaised 0 (λ code. (k : ℕ) × A k × Codes k code) f low → IsRaised low (Codes to) f high
    → ((k : ℕ) → In k → A k ⊎ (k ≡ to)) → ((k : ℕ) → A k → In k) → In to → IsRaised 0 (λ code. (k : ℕ) × In k × Codes k code) f high
one_more h0 h1 h2 to low high f before step covers a_in to_in = grind (arith, raised_both)

-- what is kept tells of all squares of the kings
pub kept_beside : (c : ℕ) (worth : Column → ℕ → ℕ) (men : ShelfMen) (side : Side) (k : ℕ) (s : Side) (keys : List (Option BlockKey)) (blocks : List (List (List ℕ))) → AreKept c worth men s keys blocks ↔ AreKept c worth (with_king men side k) s keys blocks
kept_beside c worth men White k s keys blocks = (
  (λ kept. record { some = kept.some; as_many = kept.as_many; each = kept.each; placed = kept.placed }),
  (λ kept. record { some = kept.some; as_many = kept.as_many; each = kept.each; placed = kept.placed }),
)
kept_beside c worth men Black k s keys blocks = (
  (λ kept. record { some = kept.some; as_many = kept.as_many; each = kept.each; placed = kept.placed }),
  (λ kept. record { some = kept.some; as_many = kept.as_many; each = kept.each; placed = kept.placed }),
)
