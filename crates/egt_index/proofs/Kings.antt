-- Some turn brings a king to a square of the white king's digit.
use Rattle.std.proofs.Common.{◌≡◌, ℕ, zero, suc, ◌<◌, ◌||◌, Bool, true, false, eqb, arith, refl}
use Rattle.egt_index.specs.Prelude.{false≢true, eqb-true, turned_square, all_below, passes_below, king_base}
use Rattle.egt_index.specs.Prelude.{king_square, symmetries}

-- some number below n passes
unfoldable pub some_below : (ℕ → Bool) → ℕ → Bool
some_below p zero = false
some_below p (suc n) = p n || some_below p n

pub some_passes : (p : ℕ → Bool) (n : ℕ) → some_below p n ≡ true → (k : ℕ) × (k < n) × (p k ≡ true)
unfolding some_below
some_passes p zero h = absurd (false≢true h)
some_passes p (suc n) h = of_test (p n) refl h (λ h. some_passes p n h)
  where
    of_test : (b : Bool) → p n ≡ b → (b || some_below p n) ≡ true → (some_below p n ≡ true → (k : ℕ) × (k < n) × (p k ≡ true)) → (k : ℕ) × (k < suc n) × (p k ≡ true)
    of_test b is h rest = grind arith

-- the square has a digit
unfoldable pub has_digit : Bool → ℕ → Bool
has_digit pawns s = some_below (λ d. eqb (king_square pawns d) s) (king_base pawns)

some_turn : Bool → Bool → ℕ → Bool
some_turn pawns flipped s = some_below (λ n. has_digit pawns (turned_square n flipped s)) (symmetries pawns)

all_turn : (pawns flipped : Bool) → all_below (some_turn pawns flipped) 64 ≡ true
unfolding all_below some_below has_digit some_turn
all_turn pawns flipped = grind arith

-- a turn after which the king of a square has a digit
pub record KingTurn (pawns flipped : Bool) (s : ℕ) : Type 0 where
  pub turn : ℕ
  pub below : turn < symmetries pawns
  pub digit : ℕ
  pub digit_below : digit < king_base pawns
  pub is : king_square pawns digit ≡ turned_square turn flipped s

pub king_turn : (pawns flipped : Bool) (s : ℕ) → s < 64 → KingTurn pawns flipped s
unfolding has_digit some_turn
king_turn pawns flipped s s_in =
    let some = some_passes _ _ (passes_below (some_turn pawns flipped) 64 s (all_turn pawns flipped) s_in) in
    let digit = some_passes _ _ some.2 in
    record { turn = some.0; below = some.1; digit = digit.0; digit_below = digit.1; is = eqb-true _ _ digit.2 }
