-- Scores of draws, put at a shelf's codes that are indexes.
use Rattle.std.proofs.Common.{◌≡◌, ◌∙◌, ◌⊎◌, ℕ, ◌+◌, ◌*◌, ◌-◌, ◌/◌, ◌%◌, ◌<◌, ◌≤◌, replicate, slice_index, arith, sym}
use Rattle.std.proofs.Common.{ap, subst, inl, inr}
use Rattle.egt_check.specs.Prelude.{bit_at, cases_eq, get_or-replicate, div-add-mod', div_below, mod_below, bit_at-zero}
use Rattle.egt_check.specs.Prelude.{bit_at_cat_high, bit_at_cat_low, side_number, Has, Side, White, Black, SquareSet}
use Rattle.egt_check.specs.Prelude.{IsVoid, code_of, number_of, places, kind_digits, kind_less, AreIndexed, number_in}
use Rattle.egt_check.specs.Prelude.{size_of, ShelfMen, square_in, AreDrawnOrNone, CodeScores, HasNoVoidScore, IsLaneIn}

-- ---- bits a rank further on

kept_low : (n s : ℕ) → s < 64 → bit_at (n % 18446744073709551616) s ≡ bit_at n s
kept_low n s s_in =
    sym (bit_at_cat_low (n / 18446744073709551616) 64 (n % 18446744073709551616) s s_in)
    ∙ ap (λ m. bit_at m s) (div-add-mod' n 18446744073709551616)

plain : (n : ℕ) → n * 256 ≡ n * 256 + 0
plain n = omega arith

pub shifted_high : (n s : ℕ) → 8 ≤ s → s < 64 → bit_at (n * 256 % 18446744073709551616) s ≡ bit_at n (s - 8)
shifted_high n s high s_in = kept_low (n * 256) s s_in ∙ ap (λ m. bit_at m s) (plain n) ∙ bit_at_cat_high n 8 0 s (omega arith) high

pub shifted_low : (n s : ℕ) → s < 8 → bit_at (n * 256 % 18446744073709551616) s ≡ 0
shifted_low n s low = kept_low (n * 256) s (omega (arith, low)) ∙ ap (λ m. bit_at m s) (plain n) ∙ bit_at_cat_low n 8 0 s low ∙ bit_at-zero s

-- ---- one side of a shelf

-- a code's score is as it was, or that of a draw at an index
pub record IsDrawnFrom (c : ℕ) (old new : CodeScores) : Type 0 where
  pub class : new.class ≡ old.class
  pub either : (code : ℕ) → (slice_index new.scores code ≡ slice_index old.scores code) ⊎ ((slice_index new.scores code ≡ 128) × ¬ IsVoid c code)

module _ (c first bits shelf : ℕ) (men : ShelfMen) (side : Side) (lanes : SquareSet) (old new : CodeScores) (class : new.class ≡ old.class) (first_is : first ≡ shelf * (2 * places c) + side_number side) (len : places c ≡ kind_digits men.last.kind) (indexed : AreIndexed c first bits)
    (lanes_are : (k : ℕ) → k < kind_digits men.last.kind → bit_at lanes.bits (k + kind_less men.last.kind) ≡ bit_at bits k)
    (put : (digit : ℕ) → digit < kind_digits men.last.kind → Has lanes (digit + kind_less men.last.kind) → slice_index new.scores (code_of c (number_in c shelf side digit)) ≡ slice_index (replicate {A = ℕ} 64 128) (digit + kind_less men.last.kind))
    (others : (code : ℕ) → (slice_index new.scores code ≡ slice_index old.scores code) ⊎ IsLaneIn c men shelf side lanes code) where
  number : (k : ℕ) → first + 2 * k ≡ number_in c shelf side k
  number k = omega (arith, first_is)

  put_there : (k : ℕ) → k < kind_digits men.last.kind → Has lanes (k + kind_less men.last.kind) → slice_index new.scores (code_of c (number_in c shelf side k)) ≡ 128
  put_there k below has = put k below has ∙ get_or-replicate 64 (k + kind_less men.last.kind) 128 0 (square_in men.last.kind k below)

  pub drawn_from : IsDrawnFrom c old new
  drawn_from = record {
    class = class;
    either = λ code. elim (others code) [
      | inl same ↦ inl same
      | inr lane ↦
          let k : ℕ = lane.0 in
          let index = ((indexed k).0 (sym (lanes_are k lane.1) ∙ lane.2)).1 in
          inr (ap (slice_index new.scores) lane.3 ∙ put_there k lane.1 lane.2, subst (λ i. ¬ IsVoid c i) (ap (code_of c) (number k) ∙ sym lane.3) index)
    ];
  }

  pub drawn_side : (k : ℕ) → k < places c → ¬ IsVoid c (code_of c (number_in c shelf side k)) → slice_index new.scores (code_of c (number_in c shelf side k)) ≡ 128
  drawn_side k k_in index =
      let below : k < kind_digits men.last.kind = subst (λ n. k < n) len k_in in
      put_there k below (lanes_are k below ∙ (indexed k).1 (k_in, subst (λ n. ¬ IsVoid c (code_of c n)) (sym (number k)) index))

-- what was drawn still is
module _ (c : ℕ) (old new : CodeScores) (from : IsDrawnFrom c old new) where
  pub still_128 : (code : ℕ) → slice_index old.scores code ≡ 128 → slice_index new.scores code ≡ 128
  still_128 code was = elim (from.either code) [ inl same ↦ same ∙ was | inr drawn ↦ drawn.0 ]

  pub still_void : old.class ≡ c → HasNoVoidScore old → HasNoVoidScore new
  still_void same none code void = grind arith

  pub still_few : AreDrawnOrNone old → AreDrawnOrNone new
  still_few few code = grind arith

pub both_drawn : (c : ℕ) (old mid new : CodeScores) → IsDrawnFrom c old mid → IsDrawnFrom c mid new → IsDrawnFrom c old new
both_drawn c old mid new first second = record {
  class = second.class ∙ first.class;
  either = λ code. elim (second.either code) [
    | inl same ↦ elim (first.either code) [ inl before ↦ inl (same ∙ before) | inr drawn ↦ inr (same ∙ drawn.0, drawn.1) ]
    | inr drawn ↦ inr drawn
  ];
}

pub by_side : (At : Side → ℕ → Type 0) → ((k : ℕ) → At White k) → ((k : ℕ) → At Black k) → (side : Side) (k : ℕ) → At side k
by_side At white black White = white
by_side At white black Black = black

-- ---- the numbers of all shelves stand for all codes

module _ (c shelves : ℕ) (At : ℕ → Type 0) (some : 0 < 2 * places c) (whole : shelves * (2 * places c) ≡ size_of c)
    (told : (shelf : ℕ) → shelf < shelves → (side : Side) (k : ℕ) → k < places c → At (code_of c (number_in c shelf side k))) where
  of_shelf : (n shelf rest : ℕ) → shelf * (2 * places c) + rest ≡ n → rest < 2 * places c → shelf < shelves → At (code_of c n)
  of_shelf n shelf rest is few shelf_in = elim (cases_eq (rest % 2) 0) [
    | inl even ↦ subst (λ m. At (code_of c m)) (let at : number_in c shelf White (rest / 2) ≡ n = omega (arith, is, even) in at) (told shelf shelf_in White (rest / 2) (omega (arith, few)))
    | inr odd ↦ subst (λ m. At (code_of c m)) (let at : number_in c shelf Black (rest / 2) ≡ n = omega (arith, is, odd) in at) (told shelf shelf_in Black (rest / 2) (omega (arith, few)))
  ]

  of_number : (n : ℕ) → n < size_of c → At (code_of c n)
  of_number n below =
      of_shelf n (n / (2 * places c)) (n % (2 * places c)) (div-add-mod' n (2 * places c)) (mod_below n (2 * places c) some)
      (div_below n (2 * places c) shelves some (subst (λ size. n < size) (sym whole) below))

  pub of_code : (code : ℕ) → code_of c (number_of c code) ≡ code → number_of c code < size_of c → At code
  of_code code is within = subst At is (of_number (number_of c code) within)
