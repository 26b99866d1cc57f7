-- The table of turned squares is right at each square and turn.
use Rattle.std.proofs.Common.{◌≡◌, ℕ, zero, suc, ◌+◌, ◌*◌, ◌/◌, ◌%◌, ◌<◌, ◌&&◌, ◌==◌, Bool, true, ltb, eqb, List, []}
use Rattle.std.proofs.Common.{◌∷◌, length, get_or, arith, refl, ap, ◌∙◌, subst, slice_index}
use Rattle.egt_index.specs.Prelude.{and_parts, eqb-true, ltb-true, turned_square, TURNED}

is_turned : ℕ → ℕ → Bool
is_turned i n = ltb n 64 && eqb n (turned_square ((i / 64) % 8) ((i / 64) / 8 == 1) (i % 64))

-- the entries from number i on
all_turned : ℕ → List ℕ → Bool
all_turned i [] = true
all_turned i (n ∷ ns) = is_turned i n && all_turned (i + 1) ns

table_turned : all_turned 0 TURNED ≡ true
unfolding all_turned is_turned
table_turned = refl

table_long : length TURNED ≡ 1024
table_long = refl

told : (i k : ℕ) (ns : List ℕ) → all_turned i ns ≡ true → k < length ns → is_turned (i + k) (get_or ns k 0) ≡ true
unfolding all_turned
told i k [] all k_in = absurd (omega arith)
told i zero (n ∷ ns) all k_in = subst (λ j. is_turned j n ≡ true) (none i) (and_parts (is_turned i n) _ all).0
  where
    none : (i : ℕ) → i ≡ i + 0
    none i = omega arith
told i (suc k) (n ∷ ns) all k_in = subst (λ j. is_turned j (get_or ns k 0) ≡ true) (more i k) (told (i + 1) k ns (and_parts (is_turned i n) _ all).1 (omega arith))
  where
    more : (i k : ℕ) → i + 1 + k ≡ i + suc k
    more i k = omega arith

row_of : (i turn s : ℕ) → s < 64 → i ≡ 64 * turn + s → (0 + i) / 64 ≡ turn
row_of i turn s s_in is = omega arith

column_of : (i turn s : ℕ) → s < 64 → i ≡ 64 * turn + s → (0 + i) % 64 ≡ s
column_of i turn s s_in is = omega arith

-- the entry of a turn and a square
pub record TurnEntry (turn s n : ℕ) : Type 0 where
  pub on_board : n < 64
  pub is : n ≡ turned_square (turn % 8) (turn / 8 == 1) s

pub entry_told : (turn s i : ℕ) → turn < 16 → s < 64 → i ≡ 64 * turn + s → TurnEntry turn s (slice_index TURNED i)
unfolding is_turned
entry_told turn s i turn_in s_in is =
    let both = and_parts _ _ (told 0 i TURNED table_turned (omega (arith, table_long))) in
    let row : (0 + i) / 64 ≡ turn = row_of i turn s s_in is in
    let column : (0 + i) % 64 ≡ s = column_of i turn s s_in is in
    record {
      on_board = ltb-true _ 64 both.0;
      is = eqb-true _ _ both.1 ∙ ap (λ t. turned_square (t % 8) (t / 8 == 1) ((0 + i) % 64)) row ∙ ap (turned_square (turn % 8) (turn / 8 == 1)) column;
    }
