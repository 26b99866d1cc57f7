-- The entries of a class with one man beside the kings, read by his square.
use Rattle.std.proofs.Common.{◌≡◌, ℕ, ◌+◌, ◌-◌, ◌*◌, ◌%◌, ◌<◌, ◌≤◌, ◌⊎◌, Bool, true, false, List, take, drop, arith}
use Rattle.std.proofs.Common.{refl, ap, ◌∙◌, inl, inr, subst, slice_index}
use Rattle.egt_check.specs.Prelude.{cases_lt, MayStand, IsLoneRow, lone_stand, kind_less, TableValue, entries_of, Column}
use Rattle.egt_check.specs.Prelude.{side_number, Side, kind_digits, column_score, entry_score, pawn_digits, piece_digits}
use Rattle.egt_check.specs.Prelude.{P, Man, IsListed, TellsMen, list_of, Stand, IsRaised, is_pawn, piece_at, side_few}
use Rattle.egt_check.proofs.RowRead.{no_score}

module _ (t : TableValue) (column : Column) (man : Man) (white black first : ℕ) (side : Side) (is : IsLoneRow t.class first white black man)
    (one : (targeted : Bool) (c x y : ℕ) (stand : Stand) (side : Side) → TellsMen targeted c x stand side → TellsMen targeted c y stand side → x ≡ y)
    (pawns : (targeted : Bool) (c code : ℕ) (stand : Stand) (side : Side) (man : Man) (s : ℕ) → TellsMen targeted c code stand side → IsListed (list_of stand) man s → MayStand man s) where
  abbrev pub Told : ℕ → ℕ → Type 0
  Told s code = TellsMen false t.class code (lone_stand white black man s) side

  abbrev code_at : ℕ → ℕ
  code_at digit = first + side_number side + 2 * digit

  pub at_digit : (s digit v : ℕ) → digit < kind_digits man.kind → digit + kind_less man.kind ≡ s → v ≡ column_score t column (code_at digit) → IsRaised 0 (Told s) (column_score t column) v
  at_digit s digit v below at value =
      let here : Told s (code_at digit) = subst (λ k. Told k (code_at digit)) at (is.tells side digit below) in
      record {
        kept = omega arith;
        above = λ code there. let same = ap (column_score t column) (one false t.class code (code_at digit) (lone_stand white black man s) side there here) in omega (arith, same, value);
        reached = inr (code_at digit, here, value);
      }

  -- no code has a pawn on the first rank or the last
  pub at_edge : (s v : ℕ) → man.kind ≡ P → (s < 8) ⊎ (56 ≤ s) → v ≡ 0 → IsRaised 0 (Told s) (column_score t column) v
  at_edge s v pawn edge none = record {
    kept = omega arith;
    above = λ code there. absurd (let may = pawns false t.class code (lone_stand white black man s) side man s there (inr (inr (inl (refl, refl)))) pawn in elim edge [
      | inl low ↦ omega (arith, may.0)
      | inr high ↦ omega (arith, may.1)
    ]);
    reached = inl none;
  }

  -- a lane of what is loaded
  module _ (entries loaded : List ℕ) (entries_are : entries ≡ entries_of column t) where
    read : (len digit v : ℕ) → 2 * digit + side_number side < len → v ≡ slice_index (take (first + len - first) (drop first entries)) (2 * digit + side_number side) → v ≡ slice_index (entries_of column t) (code_at digit)
    read len digit v below is_piece = grind (arith, piece_at, side_number, slice_index)

    abbrev Raised : ℕ → ℕ → Type 0
    Raised s v = IsRaised 0 (Told s) (column_score t column) v

    -- of a piece, who stands on any square
    pub of_piece : is_pawn man.kind ≡ false → (row : List ℕ) (s : ℕ) → s < 64 → slice_index loaded s ≡ slice_index (take (first + 128 - first) (drop first entries)) (2 * s + side_number side) → slice_index row s ≡ entry_score column (slice_index loaded s % 256) → Raised s (slice_index row s)
    of_piece kind row s s_in lane value =
        let digits = piece_digits man.kind kind in
        let few = side_few side in
        at_digit s s (slice_index row s) (omega arith) (omega arith) (value ∙ ap (λ e. entry_score column (e % 256)) (read 128 s (slice_index loaded s) (omega arith) lane))

    -- of a pawn, who stands on neither the first rank nor the last
    pub of_pawn : is_pawn man.kind ≡ true → (row : List ℕ) (s : ℕ) → s < 64 → (8 ≤ s → s < 56 → slice_index loaded s ≡ slice_index (take (first + 96 - first) (drop first entries)) (2 * (s - 8) + side_number side))
        → ((s < 8) ⊎ (56 ≤ s) → slice_index loaded s ≡ 0) → slice_index row s ≡ entry_score column (slice_index loaded s % 256) → Raised s (slice_index row s)
    of_pawn kind row s s_in middle edge value = elim (cases_lt s 8) [
      | inl low ↦ at_edge s (slice_index row s) digits.0 (inl low) (value ∙ ap (λ e. entry_score column (e % 256)) (edge (inl low)) ∙ no_score column)
      | inr from ↦ elim (cases_lt s 56) [
        | inl to ↦ let few = side_few side in
            at_digit s (s - 8) (slice_index row s) (omega (arith, digits.1)) (omega (arith, digits.2)) (value ∙ ap (λ e. entry_score column (e % 256)) (read 96 (s - 8) (slice_index loaded s) (omega arith) (middle from to)))
        | inr high ↦ at_edge s (slice_index row s) digits.0 (inr high) (value ∙ ap (λ e. entry_score column (e % 256)) (edge (inr high)) ∙ no_score column)
      ]
    ]
      where
        digits : (man.kind ≡ P) × (kind_digits man.kind ≡ 48) × (kind_less man.kind ≡ 8)
        digits = pawn_digits man.kind kind
