-- Blocks of scores after the last man beside the kings was taken.
use Rattle.std.proofs.Common.{◌≡◌, ◌≢◌, ℕ, ◌<◌, ◌↔◌, Bool, cond, eqb, max, List, [], length, get_or, get_or-set_other}
use Rattle.std.proofs.Common.{arith, refl, sym, ap, ◌∙◌, inl, inr, subst, slice_index}
use Rattle.egt_blocks.specs.Prelude.{bit_at, cases_eq, ne_eqb, get_or-set_at, set, length-set, Reaches, Reaches-free}
use Rattle.egt_blocks.specs.Prelude.{other_side, Has, Side, SquareSet, IsSomeTurnedCode, ShelfMen, raised_by_one}
use Rattle.egt_blocks.specs.Prelude.{raised_is, at, IsRaised, IsBesideKing, with_king, AreLeftCodes, IsPastKings, Left}
use Rattle.egt_blocks.specs.Prelude.{left_of, stand_left, IsRead}
use Rattle.egt_blocks.proofs.BlockRaising.{GoneKing, raised_alike, raised_both, raised_by_none, same_beside}
use Rattle.egt_blocks.proofs.QuietRaising.{raised_through}

-- ---- by the first man

-- he takes on b from a
abbrev pub IsTake : ShelfMen → (a b t : ℕ) → Type 0
IsTake men a b t = (t ≡ b) × Reaches (IsPastKings men) men.first a t

module _ (men : ShelfMen) (kings reached a b low : ℕ) (row : List ℕ) (are : (u : ℕ) → (bit_at kings u ≡ 0) ↔ IsPastKings men u) (is : (bit_at reached b ≡ 1) ↔ Reaches (λ u. bit_at kings u ≡ 0) men.first a b) where
  pub take_raised : (high : ℕ) → high ≡ max low (cond (eqb (bit_at reached b) 1) (slice_index row b) 0) → IsRaised low (IsTake men a b) (slice_index row) high
  take_raised high value = elim (cases_eq (bit_at reached b) 1) [
    | inl here ↦
        let takes : Reaches (IsPastKings men) men.first a b = Reaches-free (λ u. bit_at kings u ≡ 0) (IsPastKings men) men.first a b (λ u u_in. (are u).0) (is.0 here) in
        subst (IsRaised low (IsTake men a b) (slice_index row)) (sym (value ∙ ap (λ x. max low (cond (eqb x 1) (slice_index row b) 0)) here))
        (raised_by_one low b (IsTake men a b) (slice_index row) (refl, takes) (λ t take. take.0))
    | inr not ↦
        subst (IsRaised low (IsTake men a b) (slice_index row)) (let gone : high ≡ low = value ∙ ap (λ e. max low (cond e (slice_index row b) 0)) (ne_eqb (bit_at reached b) 1 not) ∙ omega arith in sym gone)
        (raised_by_none low (IsTake men a b) (slice_index row)
        (λ t take. not (is.1 (Reaches-free (IsPastKings men) (λ u. bit_at kings u ≡ 0) men.first a b (λ u u_in. (are u).1) (subst (Reaches (IsPastKings men) men.first a) take.0 take.1)))))
  ]

-- ---- by the king

-- the codes where the king takes on b, which is beside it
abbrev pub AreBeside : (c : ℕ) (flips : Bool) → ShelfMen → Side → (b a code : ℕ) → Type 0
AreBeside c flips men side b a code = IsBesideKing men side b × IsSomeTurnedCode c code flips (stand_left flips (left_of (with_king men side b) men.first a)) (other_side side)

-- the same of the squares that are no longer left
abbrev pub AreGone : (c : ℕ) (flips : Bool) → ShelfMen → Side → SquareSet → (b a code : ℕ) → Type 0
AreGone c flips men side rest b a code = GoneKing men side rest b × IsSomeTurnedCode c code flips (stand_left flips (left_of (with_king men side b) men.first a)) (other_side side)

-- each row holds the scores of the squares so far, and what is left is beside the king
pub record RowsTaken (c : ℕ) (worth : ℕ → ℕ) (flips : Bool) (men : ShelfMen) (side : Side) (rest : SquareSet) (out : List (List ℕ)) : Type 0 where
  pub long : length out ≡ 64
  pub done : (b a : ℕ) → b < 64 → a < 64 → IsRaised 0 (AreGone c flips men side rest b a) worth (at out b a)
  pub left : (k : ℕ) → k < 64 → Has rest k → IsBesideKing men side k

module _ (c : ℕ) (worth : ℕ → ℕ) (flips : Bool) (men : ShelfMen) (side : Side) where
  pub taken_none : (rest : SquareSet) (out : List (List ℕ)) → length out ≡ 64 → ((a b : ℕ) → a < 64 → b < 64 → at out a b ≡ 0) → ((k : ℕ) → k < 64 → Has rest k ↔ IsBesideKing men side k) → RowsTaken c worth flips men side rest out
  taken_none rest out long zero is = record {
    long = long;
    done = λ b a b_in a_in. subst (IsRaised 0 (AreGone c flips men side rest b a) worth) (sym (zero b a b_in a_in))
        (raised_by_none 0 (AreGone c flips men side rest b a) worth (λ code h. let has = (is b b_in).1 h.0.0 in let none = h.0.1 in omega (arith, has, none)));
    left = λ k k_in. (is k k_in).0;
  }

  module _ (rest new : SquareSet) (out : List (List ℕ)) (to : ℕ) (row : List ℕ) (to_in : to < 64) (had : Has rest to) (gone : bit_at new.bits to ≡ 0) (others : (k : ℕ) → k ≢ to → bit_at new.bits k ≡ bit_at rest.bits k)
      (read : (a : ℕ) → a < 64 → IsRead c worth flips (stand_left flips (left_of (with_king men side to) (with_king men side to).first a)) (other_side side) (slice_index row a)) (before : RowsTaken c worth flips men side rest out) where
    there : (a : ℕ) → a < 64 → IsRaised 0 (AreGone c flips men side new to a) worth (slice_index row a)
    there a a_in = grind (arith, raised_alike, stand_left, left_of, with_king, other_side, same_beside)

    pub taken_more : RowsTaken c worth flips men side new (set out to row)
    taken_more = record {
      long = omega (arith, before.long, length-set {A = List ℕ});
      done = λ b a b_in a_in. elim (cases_eq b to) [
        | inl same ↦
            let now : at (set out to row) b a ≡ slice_index row a = ap (λ x. get_or x a 0) (get_or-set_at out to b row [] same (omega (arith, before.long))) in
            subst (IsRaised 0 (AreGone c flips men side new b a) worth) (sym now)
            (subst (λ k. IsRaised 0 (AreGone c flips men side new k a) worth (slice_index row a)) (sym same) (there a a_in))
        | inr other ↦
            let kept : at (set out to row) b a ≡ at out b a = ap (λ x. get_or x a 0) (get_or-set_other out to b row [] other) in
            subst (IsRaised 0 (AreGone c flips men side new b a) worth) (sym kept)
            (raised_alike 0 (at out b a) (AreGone c flips men side rest b a) (AreGone c flips men side new b a) worth (before.done b a b_in a_in)
            (λ code h. ((h.0.0, sym (others b other) ∙ h.0.1), h.1)) (λ code h. ((h.0.0, others b other ∙ h.0.1), h.1)))
      ];
      left = λ k k_in has. elim (cases_eq k to) [
        | inl same ↦ absurd (let none = ap (bit_at new.bits) same ∙ gone in omega (arith, has, none))
        | inr other ↦ before.left k k_in (sym (others k other) ∙ has)
      ];
    }

  pub taken_all : (rest : SquareSet) (out : List (List ℕ)) → RowsTaken c worth flips men side rest out → ((k : ℕ) → bit_at rest.bits k ≡ 0) → (b a : ℕ) → b < 64 → a < 64 → IsRaised 0 (AreBeside c flips men side b a) worth (at out b a)
  taken_all rest out rows none b a b_in a_in = raised_alike 0 (at out b a) (AreGone c flips men side rest b a) (AreBeside c flips men side b a) worth (rows.done b a b_in a_in)
      (λ code h. ((h.0, none b), h.1)) (λ code h. (h.0.0, h.1))

  -- ---- by either

  module _ (a b : ℕ) where
    -- the rows taken into nothing
    pub king_raised : (low u v : ℕ) → low ≡ 0 → v ≡ max low u → IsRaised 0 (AreBeside c flips men side b a) worth u → IsRaised 0 (AreBeside c flips men side b a) worth v
    king_raised low u v none is raised = raised_is 0 u v (AreBeside c flips men side b a) worth (omega (arith, none, is)) raised

    by_king : men.last.side ≡ other_side side → (code : ℕ) → AreBeside c flips men side b a code → AreLeftCodes c flips men side a b code
    by_king foe code h = (left_of (with_king men side b) men.first a, inl (foe, h.0, refl), h.1)

    told : (code : ℕ) (left to : Left) → left ≡ to → IsSomeTurnedCode c code flips (stand_left flips left) (other_side side) → IsSomeTurnedCode c code flips (stand_left flips to) (other_side side)
    told code left to same is = subst (λ (l : Left). IsSomeTurnedCode c code flips (stand_left flips l) (other_side side)) same is

    -- the first man takes nobody
    pub king_takes : (v : ℕ) → men.last.side ≡ other_side side → men.first.side ≢ side → IsRaised 0 (AreBeside c flips men side b a) worth v → IsRaised 0 (AreLeftCodes c flips men side a b) worth v
    king_takes v foe not raised = raised_alike 0 v (AreBeside c flips men side b a) (AreLeftCodes c flips men side a b) worth raised
        (λ code h. elim h.1 [
          | inl king ↦ (king.1, told code h.0 (left_of (with_king men side b) men.first a) king.2 h.2)
          | inr one ↦ absurd (not one.0)
        ])
        (by_king foe)

    pub both_take : (low high : ℕ) (scores : List ℕ) → b < 64 → men.last.side ≡ other_side side → men.first.side ≡ side → IsRaised 0 (AreBeside c flips men side b a) worth low
        → ((s : ℕ) → s < 64 → IsRead c worth flips (stand_left flips (left_of men men.first s)) (other_side side) (slice_index scores s)) → IsRaised low (IsTake men a b) (slice_index scores) high
        → IsRaised 0 (AreLeftCodes c flips men side a b) worth high
    both_take low high scores b_in foe own king read first = raised_both 0 low high (AreBeside c flips men side b a)
        (λ code. (s : ℕ) × IsTake men a b s × IsSomeTurnedCode c code flips (stand_left flips (left_of men men.first s)) (other_side side)) (AreLeftCodes c flips men side a b) worth king
        (raised_through low high (IsTake men a b) (λ s code. IsSomeTurnedCode c code flips (stand_left flips (left_of men men.first s)) (other_side side)) worth (slice_index scores)
        (λ s take. read s (omega (arith, take.0, b_in))) first)
        (λ code h. elim h.1 [
          | inl king ↦ inl (king.1, told code h.0 (left_of (with_king men side b) men.first a) king.2 h.2)
          | inr one ↦ inr (b, (refl, one.2), told code h.0 (left_of men men.first b) one.3 h.2)
        ])
        (by_king foe)
        (λ code h. (left_of men men.first h.0, inr (own, foe, subst (Reaches (IsPastKings men) men.first a) h.1.0 h.1.1, ap (left_of men men.first) h.1.0), h.2))
