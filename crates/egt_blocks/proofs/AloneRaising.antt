-- Rows raised to the scores after the quiet steps of three men.
use Rattle.std.proofs.Common.{◌≡◌, ◌≢◌, ℕ, ◌<◌, refl, inl, inr, subst, false}
use Rattle.egt_blocks.specs.Prelude.{Reaches, Reaches-on_board, other_side, P, Side, IsSomeTurnedCode, ShelfMen}
use Rattle.egt_blocks.specs.Prelude.{Stand, IsRaised, AreCodesAlone, AreKingCodesAlone, stand_alone, IsBesideKing}
use Rattle.egt_blocks.specs.Prelude.{with_king, IsPastKings, IsRead}
use Rattle.egt_blocks.proofs.BlockRaising.{raised_alike, raised_both}
use Rattle.egt_blocks.proofs.QuietRaising.{raised_through}

module _ (c : ℕ) (worth : ℕ → ℕ) (men : ShelfMen) (side : Side) (s low : ℕ) (king : IsRaised 0 (AreKingCodesAlone c men side (IsBesideKing men side) s) worth low) where
  abbrev Codes : Stand → ℕ → Type 0
  Codes stand code = IsSomeTurnedCode c code false stand (other_side side)

  -- only the king has quiet steps
  pub king_only : (men.last.side ≡ side → men.last.kind ≡ P) → IsRaised 0 (AreCodesAlone c men side s) worth low
  king_only pawn = raised_alike 0 low (AreKingCodesAlone c men side (IsBesideKing men side) s) (AreCodesAlone c men side s) worth king
      (λ code h. elim h.1 [
        | inl k ↦ (k.0, k.1, subst (λ (x : Stand). Codes x code) k.2 h.2)
        | inr man ↦ absurd (man.1 (pawn man.0))
      ])
      (λ code h. (stand_alone (with_king men side h.0) s, inl (h.0, h.1, refl), h.2))

  -- so has the man
  pub with_man : men.last.side ≡ side → men.last.kind ≢ P → (g : ℕ → ℕ) (high : ℕ) → ((t : ℕ) → t < 64 → IsRead c worth false (stand_alone men t) (other_side side) (g t)) → IsRaised low (λ t. Reaches (IsPastKings men) men.last s t) g high
      → IsRaised 0 (AreCodesAlone c men side s) worth high
  with_man own piece g high read raised =
      raised_both 0 low high (AreKingCodesAlone c men side (IsBesideKing men side) s) (λ code. (t : ℕ) × Reaches (IsPastKings men) men.last s t × Codes (stand_alone men t) code) (AreCodesAlone c men side s) worth king
      (raised_through low high (λ t. Reaches (IsPastKings men) men.last s t) (λ t. Codes (stand_alone men t)) worth g (λ t r. read t (Reaches-on_board (IsPastKings men) men.last s t r)) raised)
      (λ code h. elim h.1 [
        | inl k ↦ inl (k.0, k.1, subst (λ (x : Stand). Codes x code) k.2 h.2)
        | inr man ↦ inr (man.2, man.4, subst (λ (x : Stand). Codes x code) man.5 h.2)
      ])
      (λ code h. (stand_alone (with_king men side h.0) s, inl (h.0, h.1, refl), h.2))
      (λ code h. (stand_alone men h.0, inr (own, piece, h.0, Reaches-on_board (IsPastKings men) men.last s h.0 h.1, h.1, refl), h.2))
