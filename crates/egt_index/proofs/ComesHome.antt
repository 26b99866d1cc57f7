-- The tables of turns that bring a king home are right for each square.
use Rattle.std.proofs.Common.{◌≡◌, ◌≢◌, ℕ, ◌+◌, ◌/◌, ◌%◌, ◌<◌, ◌⊎◌, ◌&&◌, ◌||◌, not, Bool, true, false, cond, ltb, eqb}
use Rattle.std.proofs.Common.{Option, Some, None, IfSome, refl, sym, ap, ◌∙◌, inl, inr, subst, slice_index, arith}
use Rattle.egt_index.specs.Prelude.{and_parts, and_from, eqb-true, eq-eqb, ltb-true, lt-ltb, turned_square, all_below}
use Rattle.egt_index.specs.Prelude.{passes_below, king_square, symmetries, IsTurnWith, BringsHome, AreHome, king_base}
use Rattle.egt_index.specs.Prelude.{FIRST, LAST}
use Rattle.egt_index.proofs.Kings.{some_below, some_passes, has_digit}
use Rattle.egt_index.proofs.Tested.{implied, one_of, not_both}

is_with : Bool → Bool → ℕ → Bool
is_with pawns flips t = ltb t 16 && (same (eqb (t / 8) 1) flips && ltb (t % 8) (symmetries pawns))
  where
    same : Bool → Bool → Bool
    same a b = cond a b (not b)

-- the king of the square has no digit after the turn
is_away : Bool → Bool → ℕ → ℕ → Bool
is_away pawns flips king t = all_below (λ d. not (eqb (king_square pawns d) (turned_square (t % 8) flips king))) (king_base pawns)

-- or it has one
is_brought : Bool → Bool → ℕ → ℕ → Bool
is_brought pawns flips king t = has_digit pawns (turned_square (t % 8) flips king)

is_right_at : Bool → Bool → ℕ → ℕ → ℕ → Bool
is_right_at pawns flips king first last =
    (is_brought pawns flips king first && is_brought pawns flips king last)
    && (is_with pawns flips first && (is_with pawns flips last && all_below (λ t. not (is_with pawns flips t) || (eqb t first || (eqb t last || is_away pawns flips king t))) 16))

row : Bool → Bool → ℕ → ℕ
row pawns flips king = cond pawns 128 0 + cond flips 64 0 + king

is_right : Bool → Bool → ℕ → Bool
is_right pawns flips king = is_right_at pawns flips king (slice_index FIRST (row pawns flips king)) (slice_index LAST (row pawns flips king))

all_right : (pawns flips : Bool) → all_below (is_right pawns flips) 64 ≡ true
unfolding all_below is_right is_right_at is_with is_away is_brought has_digit some_below row
all_right true true = refl
all_right true false = refl
all_right false true = refl
all_right false false = refl

-- whether a king stands where files and ranks may be exchanged with no change
abbrev pub is_tied : Bool → ℕ → Bool
is_tied pawns king = not pawns && eqb (king % 8) (king / 8)

pub tied_is : (pawns : Bool) (king file rank : ℕ) (b : Bool) → file ≡ king % 8 → rank ≡ king / 8 → (not pawns && eqb file rank) ≡ b → is_tied pawns king ≡ b
tied_is pawns king file rank b file_is rank_is is = ap (λ f. not pawns && eqb f (king / 8)) (sym file_is) ∙ ap (λ r. not pawns && eqb file r) (sym rank_is) ∙ is

-- the other turn that leaves a king at home
abbrev pub still : Bool → ℕ → ℕ
still pawns king = cond (is_tied pawns king) 4 0

all_still : (pawns : Bool) → all_below (λ d. is_right_at pawns false (king_square pawns d) 0 (still pawns (king_square pawns d))) (king_base pawns) ≡ true
unfolding all_below is_right_at is_with is_away is_brought has_digit some_below
all_still true = refl
all_still false = refl

with_told : (pawns flips : Bool) (t : ℕ) → is_with pawns flips t ≡ true → IsTurnWith pawns flips t
unfolding is_with
with_told pawns flips t h = grind (arith, ltb-true, not)

told_with : (pawns flips : Bool) (t : ℕ) → IsTurnWith pawns flips t → is_with pawns flips t ≡ true
unfolding is_with
told_with pawns flips t h = grind (arith, and_from, lt-ltb, not)

away_told : (pawns flips : Bool) (king t d : ℕ) → is_away pawns flips king t ≡ true → d < king_base pawns → king_square pawns d ≢ turned_square (t % 8) flips king
unfolding is_away
away_told pawns flips king t d away d_in same = not_both (eqb (king_square pawns d) (turned_square (t % 8) flips king)) (eq-eqb _ _ same) (passes_below _ _ d away d_in)

brought_told : (pawns flips : Bool) (king t : ℕ) → is_brought pawns flips king t ≡ true → BringsHome pawns flips king t
unfolding is_brought has_digit
brought_told pawns flips king t h = let some = some_passes _ _ h in (some.0, some.1, eqb-true _ _ some.2)

-- the one turn, or the two
turns_told : (pawns flips : Bool) (king first last : ℕ) (second : Option ℕ) → is_right_at pawns flips king first last ≡ true → ((first ≡ last) × (second ≡ None)) ⊎ (second ≡ Some last) → AreHome pawns flips king first second
unfolding is_right_at
turns_told pawns flips king first last second right seconds = record {
  one = with_told pawns flips first both.0;
  other = of_second seconds;
  brings = brought_told pawns flips king first brought.0;
  other_brings = of_brought seconds;
  none = λ t turn apart others d d_in. elim (one_of _ _ (implied _ _ (told_with pawns flips t turn) (passes_below _ 16 t more.1 turn.below))) [
    | inl h ↦ absurd (apart (eqb-true t first h))
    | inr h ↦ elim (one_of _ _ h) [
      | inl e ↦ absurd (not_last seconds t apart others (eqb-true t last e))
      | inr away ↦ away_told pawns flips king t d away d_in
    ]
  ];
}
  where
    parts : ((is_brought pawns flips king first && is_brought pawns flips king last) ≡ true)
        × ((is_with pawns flips first && (is_with pawns flips last && all_below (λ t. not (is_with pawns flips t) || (eqb t first || (eqb t last || is_away pawns flips king t))) 16)) ≡ true)
    parts = and_parts _ _ right

    brought : (is_brought pawns flips king first ≡ true) × (is_brought pawns flips king last ≡ true)
    brought = and_parts _ _ parts.0

    both : (is_with pawns flips first ≡ true) × ((is_with pawns flips last && all_below (λ t. not (is_with pawns flips t) || (eqb t first || (eqb t last || is_away pawns flips king t))) 16) ≡ true)
    both = and_parts _ _ parts.1

    more : (is_with pawns flips last ≡ true) × (all_below (λ t. not (is_with pawns flips t) || (eqb t first || (eqb t last || is_away pawns flips king t))) 16 ≡ true)
    more = and_parts _ _ both.1

    of_second : ((first ≡ last) × (second ≡ None)) ⊎ (second ≡ Some last) → IfSome second (IsTurnWith pawns flips)
    of_second h = grind (arith, with_told)

    of_brought : ((first ≡ last) × (second ≡ None)) ⊎ (second ≡ Some last) → IfSome second (BringsHome pawns flips king)
    of_brought h = grind (arith, brought_told)

    not_last : ((first ≡ last) × (second ≡ None)) ⊎ (second ≡ Some last) → (t : ℕ) → t ≢ first → IfSome second (λ u. t ≢ u) → t ≡ last → ⊥
    not_last h t apart others is = grind arith

-- those of the tables
pub home_told : (pawns flips : Bool) (king at first last : ℕ) (second : Option ℕ) → king < 64 → at ≡ cond pawns 128 0 + cond flips 64 0 + king → first ≡ slice_index FIRST at → last ≡ slice_index LAST at
    → ((first ≡ last) × (second ≡ None)) ⊎ (second ≡ Some last) → AreHome pawns flips king first second
unfolding is_right row
home_told pawns flips king at first last second king_in at_is first_is last_is seconds = turns_told pawns flips king first last second right seconds
  where
    right : is_right_at pawns flips king first last ≡ true
    right = subst (λ n. is_right_at pawns flips king n last ≡ true) (sym (first_is ∙ ap (slice_index FIRST) at_is))
        (subst (λ n. is_right_at pawns flips king (slice_index FIRST (row pawns flips king)) n ≡ true) (sym (last_is ∙ ap (slice_index LAST) at_is)) (passes_below (is_right pawns flips) 64 king (all_right pawns flips) king_in))

-- those that leave a king at home
pub still_told : (pawns : Bool) (king last digit : ℕ) (second : Option ℕ) → last ≡ still pawns king → ((0 ≡ last) × (second ≡ None)) ⊎ (second ≡ Some last)
    → digit < king_base pawns → king_square pawns digit ≡ king → AreHome pawns false king 0 second
still_told pawns king last digit second last_is seconds below is = turns_told pawns false king 0 last second right seconds
  where
    right : is_right_at pawns false king 0 last ≡ true
    right = subst (λ n. is_right_at pawns false king 0 n ≡ true) (sym last_is)
        (subst (λ k. is_right_at pawns false k 0 (still pawns k) ≡ true) is (passes_below (λ d. is_right_at pawns false (king_square pawns d) 0 (still pawns (king_square pawns d))) (king_base pawns) digit (all_still pawns) below))
