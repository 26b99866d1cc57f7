-- Blocks raised to the scores after quiet steps.
use Rattle.std.proofs.Common.{◌≡◌, ◌≢◌, ℕ, ◌<◌, ◌⊎◌, ◌↔◌, List, arith, refl, sym, ap, ◌∙◌, inl, inr, subst, false}
use Rattle.egt_blocks.specs.Prelude.{bit_at, cases_eq, Reaches, Reaches-free, Reaches-on_board, other_side, Kind}
use Rattle.egt_blocks.specs.Prelude.{P, K, Man, Side, IsSomeTurnedCode, ShelfMen, Stand, IsPiece, IsOpen, at}
use Rattle.egt_blocks.specs.Prelude.{IsRaised, IsBesideKing, stand_on, with_king, AreKingCodes, AreQuietCodes, IsClear}
use Rattle.egt_blocks.specs.Prelude.{IsFirstStep, IsLastStep, IsRead}
use Rattle.egt_blocks.proofs.BlockRaising.{raised_alike, raised_both}

pub no_pawn : (kind : Kind) → IsPiece kind → kind ≢ P
no_pawn kind piece e = grind arith

-- ---- sets of squares

-- of the squares left without one
pub left_without : (n m s u : ℕ) → bit_at m s ≡ 0 → ((t : ℕ) → t ≢ s → bit_at m t ≡ bit_at n t) → bit_at m u ≡ 1 → (bit_at n u ≡ 1) × (u ≢ s)
left_without n m s u gone others has = elim (cases_eq u s) [
  | inl same ↦ let none : bit_at m u ≡ 0 = ap (bit_at m) same ∙ gone in absurd (omega (arith, has, none))
  | inr other ↦ (sym (others u other) ∙ has, other)
]

-- ---- raised to numbers that rose themselves

pub raised_through : (low high : ℕ) (In : ℕ → Type 0) (Codes : (t code : ℕ) → Type 0) (f g : ℕ → ℕ) → ((t : ℕ) → In t → IsRaised 0 (Codes t) f (g t)) → IsRaised low In g high
    → IsRaised low (λ code. (t : ℕ) × In t × Codes t code) f high
raised_through low high In Codes f g each raised = record {
  kept = raised.kept;
  above = λ code h. let under = (each h.0 h.1).above code h.2 in let le = raised.above h.0 h.1 in omega (arith, under, le);
  reached = elim raised.reached [
    | inl same ↦ inl same
    | inr r ↦ elim (each r.0 r.1).reached [
      | inl zero ↦ inl (let is = r.2 in let kept = raised.kept in omega (arith, is, zero, kept))
      | inr c ↦ inr (c.0, (r.0, r.1, c.1), r.2 ∙ c.2)
    ]
  ];
}

-- ---- rows raised one by one

-- ---- quiet steps

-- a man beside the kings who is no piece is a pawn
pub no_piece : (kind : Kind) → (kind ≡ P) ⊎ (kind ≡ K) → kind ≢ K → kind ≡ P
no_piece kind h other = grind arith

-- only which squares are clear counts
pub steps_raised : (F G : ℕ → Type 0) (man : Man) (s : ℕ) (f : ℕ → ℕ) (low high : ℕ) → ((u : ℕ) → u < 64 → F u ↔ G u) → IsRaised low (λ t. Reaches F man s t) f high → IsRaised low (λ t. Reaches G man s t) f high
steps_raised F G man s f low high same raised = raised_alike low high (λ t. Reaches F man s t) (λ t. Reaches G man s t) f raised
    (λ t r. Reaches-free G F man s t (λ u u_in. (same u u_in).1) r)
    (λ t r. Reaches-free F G man s t (λ u u_in. (same u u_in).0) r)

-- neither on a king's square nor on the last man's
pub open_is_clear : (men : ShelfMen) (kings b : ℕ) → ((u : ℕ) → (bit_at kings u ≡ 0) ↔ ((u ≢ men.white) × (u ≢ men.black))) → (u : ℕ) → u < 64 → IsOpen kings b u ↔ IsClear men b u
open_is_clear men kings b is u u_in = (
  (λ h. let far = (is u).0 h.0 in (far.0, far.1, h.1)),
  (λ h. ((is u).1 (h.0, h.1), h.2)),
)

module _ (c : ℕ) (worth : ℕ → ℕ) (men : ShelfMen) (side : Side) (a b : ℕ) (low : ℕ)
    (king : IsRaised 0 (AreKingCodes c men side (IsBesideKing men side) a b) worth low) where
  -- only the king has steps
  pub king_alone : (men.first.side ≡ side → men.first.kind ≡ P) → (men.last.side ≡ side → men.last.kind ≡ P) → IsRaised 0 (AreQuietCodes c men side a b) worth low
  king_alone other others = grind (arith, raised_alike, other_side, stand_on, with_king)

  module _ (scores : List (List ℕ)) (read : (i j : ℕ) → i < 64 → j < 64 → IsRead c worth false (stand_on men i j) (other_side side) (at scores i j)) (a_in : a < 64) (b_in : b < 64) (mid high : ℕ)
      (first : IsRaised low (IsFirstStep men side a b) (λ u. at scores u b) mid) (last : IsRaised mid (IsLastStep men side a b) (λ u. at scores a u) high) where
    -- codes after a step of the king or of the first man, of the first man, and of the last
    NoLast : ℕ → Type 0
    NoLast code = AreKingCodes c men side (IsBesideKing men side) a b code ⊎ ((u : ℕ) × IsFirstStep men side a b u × IsSomeTurnedCode c code false (stand_on men u b) (other_side side))

    by_first : IsRaised low (λ code. (u : ℕ) × IsFirstStep men side a b u × IsSomeTurnedCode c code false (stand_on men u b) (other_side side)) worth mid
    by_first = raised_through low mid (IsFirstStep men side a b) (λ u code. IsSomeTurnedCode c code false (stand_on men u b) (other_side side)) worth (λ u. at scores u b)
        (λ u step. read u b (Reaches-on_board (IsClear men b) men.first a u step.2) b_in) first

    by_last : IsRaised mid (λ code. (u : ℕ) × IsLastStep men side a b u × IsSomeTurnedCode c code false (stand_on men a u) (other_side side)) worth high
    by_last = raised_through mid high (IsLastStep men side a b) (λ u code. IsSomeTurnedCode c code false (stand_on men a u) (other_side side)) worth (λ u. at scores a u)
        (λ u step. read a u a_in (Reaches-on_board (IsClear men a) men.last b u step.2)) last

    by_both : IsRaised 0 NoLast worth mid
    unfolding NoLast
    by_both = raised_both 0 low mid (AreKingCodes c men side (IsBesideKing men side) a b)
        (λ code. (u : ℕ) × IsFirstStep men side a b u × IsSomeTurnedCode c code false (stand_on men u b) (other_side side)) NoLast worth king by_first
        (λ code h. h) (λ code h. inl h) (λ code h. inr h)

    pub all_quiet : IsRaised 0 (AreQuietCodes c men side a b) worth high
    unfolding NoLast
    all_quiet = raised_both 0 mid high NoLast (λ code. (u : ℕ) × IsLastStep men side a b u × IsSomeTurnedCode c code false (stand_on men a u) (other_side side)) (AreQuietCodes c men side a b) worth by_both by_last
        (λ code h. elim h.1 [
          | inl k ↦ inl (inl (k.0, k.1, subst (λ (s : Stand). IsSomeTurnedCode c code false s (other_side side)) k.2 h.2))
          | inr (inl one) ↦ inl (inr (one.2, (one.0, one.1, one.4), subst (λ (s : Stand). IsSomeTurnedCode c code false s (other_side side)) one.5 h.2))
          | inr (inr last) ↦ inr (last.2, (last.0, last.1, last.4), subst (λ (s : Stand). IsSomeTurnedCode c code false s (other_side side)) last.5 h.2)
        ])
        (λ code h. elim h [
          | inl k ↦ (stand_on (with_king men side k.0) a b, inl (k.0, k.1, refl), k.2)
          | inr one ↦ (stand_on men one.0 b, inr (inl (one.1.0, one.1.1, one.0, Reaches-on_board (IsClear men b) men.first a one.0 one.1.2, one.1.2, refl)), one.2)
        ])
        (λ code last. (stand_on men a last.0, inr (inr (last.1.0, last.1.1, last.0, Reaches-on_board (IsClear men a) men.last b last.0 last.1.2, last.1.2, refl)), last.2))
