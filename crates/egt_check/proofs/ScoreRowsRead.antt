-- The scores of codes, read from rows and put in them.
use Rattle.std.proofs.Common.{◌≡◌, ◌⊎◌, ℕ, ◌+◌, ◌*◌, ◌/◌, ◌%◌, ◌<◌, ◌≤◌, ◌∙◌, if◌then◌else◌, ◌==◌, List, [], length}
use Rattle.std.proofs.Common.{set, replicate, slice_index, arith, sym, ap, subst, inl, inr, slice_index_or}
use Rattle.egt_check.specs.Prelude.{bit_at, Has, Man, code_of, places, IsShelf, size_of, ShelfMen, side_few}
use Rattle.egt_check.specs.Prelude.{cases_eq, cases_lt, number_of, kind_less, AreMenOf, IsWithin, number_in, square_in}
use Rattle.egt_check.specs.Prelude.{bit_at-lt, nat_tests, div_below, mod_below, Side, SquareSet, kind_digits, IsShelfRow}
use Rattle.egt_check.specs.Prelude.{get_or-replicate, get_or-set_other, get_or-set_same, div-add-mod', length-replicate}
use Rattle.egt_check.specs.Prelude.{get_or-map-range_with_len, length-map-range_with_len, get_or-eq_default, side_number}
use Rattle.egt_check.specs.ScoreRows.{AreWholeRows, IsLaneIn, IsMaskOf, score_of, scores_in}

module _ (c less shelves : ℕ) (rows : List (List ℕ)) where
  pub scores_long : length (scores_in c less shelves rows) ≡ size_of c
  unfolding scores_in
  scores_long = length-map-range_with_len (λ code. score_of c less shelves rows (number_of c code)) 0 (size_of c)

  pub score_at_code : (code : ℕ) → code < size_of c → slice_index (scores_in c less shelves rows) code ≡ score_of c less shelves rows (number_of c code)
  unfolding scores_in
  score_at_code code below = get_or-map-range_with_len (λ i. score_of c less shelves rows (number_of c i)) 0 (size_of c) code code 0 below (let e : 0 + code ≡ code = omega arith in e)

  pub score_past : (code : ℕ) → size_of c ≤ code → slice_index (scores_in c less shelves rows) code ≡ 0
  score_past code past = get_or-eq_default (scores_in c less shelves rows) 0 {n = code} (let long = scores_long in omega (arith, long, past))

-- the row and the lane of a number
module _ (c shelf : ℕ) (side : Side) (digit : ℕ) (below : digit < places c) where
  pub read : (less shelves : ℕ) (rows : List (List ℕ)) → code_of c (number_in c shelf side digit) < size_of c → number_of c (code_of c (number_in c shelf side digit)) ≡ number_in c shelf side digit
      → slice_index (scores_in c less shelves rows) (code_of c (number_in c shelf side digit)) ≡ slice_index (slice_index_or rows (side_number side * shelves + shelf) []) (digit + less)
  read less shelves rows in_class stands = grind (arith, score_at_code, code_of, number_in)

-- one row at most is that of a shelf and side
one_place : (side : Side) (half shelves a b : ℕ) → half < 2 → a < shelves → b < shelves → half * shelves + a ≡ side_number side * shelves + b → (half ≡ side_number side) × (a ≡ b)
one_place side half shelves a b few a_in b_in same = grind (arith, cases_eq)

-- a row is put in the place of another: lanes that keep their scores, and the others
module _ (c less shelves shelf : ℕ) (side : Side) (rows : List (List ℕ)) (row : List ℕ)
    (some : 0 < places c) (whole : shelves * (2 * places c) ≡ size_of c) (long : length rows ≡ 2 * shelves) (within : shelf < shelves) where
  abbrev pub place : ℕ
  place = side_number side * shelves + shelf

  abbrev pub new : List (List ℕ)
  new = set rows place row

  pub place_in : place < length rows
  place_in = grind (arith, side_few, cases_eq, side_number)

  -- a code's score is that of the row that was put, or as it was
  pub either : (code : ℕ) → code_of c (number_of c code) ≡ code → number_of c code < size_of c → (code < size_of c)
      → (slice_index (scores_in c less shelves new) code ≡ slice_index (scores_in c less shelves rows) code)
      ⊎ ((digit : ℕ) × (digit < places c) × (code ≡ code_of c (number_in c shelf side digit)) × (slice_index (scores_in c less shelves new) code ≡ slice_index row (digit + less)) × (slice_index (scores_in c less shelves rows) code ≡ slice_index (slice_index_or rows place []) (digit + less)))
  either code stands number_in_class below = elim (cases_eq (half * shelves + n / w) place) [
    | inr other ↦ inl (
        score_at_code c less shelves new code below
        ∙ ap (λ (r : List ℕ). slice_index r (n % w / 2 + less)) (get_or-set_other rows place (half * shelves + n / w) row [] other)
        ∙ sym (score_at_code c less shelves rows code below))
    | inl same ↦
        let one = one_place side half shelves (n / w) shelf half_few shelf_in within same in
        inr (
          n % w / 2,
          digit_in,
          sym stands ∙ ap (code_of c) (number_there one.0 one.1),
          score_at_code c less shelves new code below ∙ ap (λ (r : List ℕ). slice_index r (n % w / 2 + less)) (ap (λ p. slice_index_or new p []) same ∙ get_or-set_same rows place row [] place_in),
          score_at_code c less shelves rows code below ∙ ap (λ p. slice_index (slice_index_or rows p []) (n % w / 2 + less)) same,
        )
  ]
    where
      n : ℕ
      n = number_of c code

      w : ℕ
      w = 2 * places c

      half : ℕ
      half = n % w % 2

      wide : 0 < w
      wide = omega (arith, some)

      half_few : half < 2
      half_few = omega arith

      rest_in : n % w < w
      rest_in = mod_below n w wide

      shelf_in : n / w < shelves
      shelf_in = div_below n w shelves wide (subst (λ size. n < size) (sym whole) number_in_class)

      digit_in : n % w / 2 < places c
      digit_in = let rest = rest_in in omega (arith, rest)

      number_there : half ≡ side_number side → n / w ≡ shelf → n ≡ number_in c shelf side (n % w / 2)
      number_there half_is shelf_there =
          let whole_number = div-add-mod' n w in
          let at = ap (λ r. r * w) shelf_there in
          omega (arith, whole_number, at, half_is)

-- ---- whole rows

-- two lists of a class's men end with one
pub one_last : (c : ℕ) (men other : ShelfMen) → AreMenOf c men → AreMenOf c other → men.last ≡ other.last
one_last c men other here there = grind arith

-- rows of nothing
pub no_score : (n r s : ℕ) → slice_index (slice_index_or (replicate n (replicate {A = ℕ} 64 0)) r []) s ≡ 0
no_score n r s = elim (cases_lt r n) [
  | inl below ↦ ap (λ (l : List ℕ). slice_index l s) (get_or-replicate n r (replicate {A = ℕ} 64 0) [] below) ∙ zero_at
  | inr past ↦ ap (λ (l : List ℕ). slice_index l s) (get_or-eq_default (replicate n (replicate {A = ℕ} 64 0)) [] {n = r} (let long = length-replicate n (replicate {A = ℕ} 64 0) in omega (arith, long, past)))
]
  where
    zero_at : slice_index (replicate {A = ℕ} 64 0) s ≡ 0
    zero_at = elim (cases_lt s 64) [
      | inl below ↦ get_or-replicate 64 s 0 0 below
      | inr past ↦ get_or-eq_default (replicate {A = ℕ} 64 0) 0 {n = s} (omega (arith, past))
    ]

pub no_scores : (c less shelves n code : ℕ) → slice_index (scores_in c less shelves (replicate n (replicate {A = ℕ} 64 0))) code ≡ 0
no_scores c less shelves n code = elim (cases_lt code (size_of c)) [
  | inl below ↦ score_at_code c less shelves (replicate n (replicate {A = ℕ} 64 0)) code below ∙ no_score n _ _
  | inr past ↦ score_past c less shelves (replicate n (replicate {A = ℕ} 64 0)) code past
]

-- the class is whole shelves
pub whole_class : (c size digits : ℕ) → size ≡ size_of c → digits ≡ places c → size_of c % (2 * places c) ≡ 0 → size / (2 * digits) * (2 * places c) ≡ size_of c
whole_class c size digits same_size same none =
    ap (λ n. n / (2 * digits) * (2 * places c)) same_size
    ∙ ap (λ n. size_of c / (2 * n) * (2 * places c)) same
    ∙ (let whole = div-add-mod' (size_of c) (2 * places c) in omega (arith, whole, none))

-- what is put in a lane of a row
pub mixed : (old scores : List ℕ) (new lane bit mask : ℕ) → new ≡ (if mask == 0 then slice_index old lane else slice_index scores lane) → bit ≡ (if mask == 0 then 0 else 1)
    → ((bit ≡ 1) → new ≡ slice_index scores lane) × ((bit ≡ 0) → new ≡ slice_index old lane)
mixed old scores new lane bit mask is bit_is = grind (arith, nat_tests)

module _ (c shelves : ℕ) (last : Man) (rows : List (List ℕ)) (are : AreWholeRows c last shelves rows) (men : ShelfMen) (shelf : ℕ) (side : Side) (is : IsShelf c shelf men) (within : IsWithin c shelf)
    (in_class : (n : ℕ) → n < size_of c → code_of c n < size_of c) (stands : (n : ℕ) → n < size_of c → number_of c (code_of c n) ≡ n) where
  pub same_last : men.last ≡ last
  same_last = are.men_of men is.men_of

  pub shelf_below : shelf < shelves
  shelf_below = grind (arith, cases_lt, places)

  number_below : (digit : ℕ) → digit < kind_digits men.last.kind → number_in c shelf side digit < size_of c
  number_below digit below = let few = side_few side in let len = is.len in omega (arith, few, len, within, below)

  pub shelf_read : IsShelfRow c (slice_index (scores_in c (kind_less last.kind) shelves rows)) men shelf side (slice_index_or rows (side_number side * shelves + shelf) [])
  shelf_read = record {
    digits = λ digit below.
        let few = number_below digit below in
        ap (λ (man : Man). slice_index (slice_index_or rows (side_number side * shelves + shelf) []) (digit + kind_less man.kind)) same_last
        ∙ sym (read c shelf side digit (subst (λ n. digit < n) (sym is.len) below) (kind_less last.kind) shelves rows (in_class (number_in c shelf side digit) few) (stands (number_in c shelf side digit) few));
    edges = λ pawn s s_in edge. are.edges (sym (ap (λ (man : Man). man.kind) same_last) ∙ pawn) (side_number side * shelves + shelf) s s_in edge;
  }

  module _ (old row scores mask : List ℕ) (lanes : SquareSet) (old_is : old ≡ slice_index_or rows (side_number side * shelves + shelf) [])
      (row_is : (s : ℕ) → s < 64 → slice_index row s ≡ (if slice_index mask s == 0 then slice_index old s else slice_index scores s)) (mask_is : IsMaskOf lanes mask) where
    lane : (s : ℕ) → s < 64 → ((bit_at lanes.bits s ≡ 1) → slice_index row s ≡ slice_index scores s) × ((bit_at lanes.bits s ≡ 0) → slice_index row s ≡ slice_index old s)
    lane s s_in = mixed old scores (slice_index row s) s (bit_at lanes.bits s) (slice_index mask s) (row_is s s_in) (mask_is s s_in)

    less_is : kind_less last.kind ≡ kind_less men.last.kind
    less_is = ap (λ (man : Man). kind_less man.kind) (sym same_last)

    pub put_others : ((code : ℕ) → code < size_of c → code_of c (number_of c code) ≡ code) → ((code : ℕ) → code < size_of c → number_of c code < size_of c) → (code : ℕ)
        → (slice_index (scores_in c (kind_less last.kind) shelves (set rows (side_number side * shelves + shelf) row)) code ≡ slice_index (scores_in c (kind_less last.kind) shelves rows) code) ⊎ IsLaneIn c men shelf side lanes code
    put_others coded numbered code = elim (cases_lt code (size_of c)) [
      | inr past ↦ inl (
          score_past c (kind_less last.kind) shelves (set rows (side_number side * shelves + shelf) row) code past
          ∙ sym (score_past c (kind_less last.kind) shelves rows code past))
      | inl below ↦ elim (either c (kind_less last.kind) shelves shelf side rows row are.some are.whole are.long shelf_below code (coded code below) (numbered code below) below) [
        | inl same ↦ inl same
        | inr here ↦
            let digit : ℕ = here.0 in
            let digit_in : digit < kind_digits men.last.kind = subst (λ n. digit < n) is.len here.1 in
            let s_in : digit + kind_less last.kind < 64 = subst (λ n. digit + n < 64) (sym less_is) (square_in men.last.kind digit digit_in) in
            elim (cases_eq (bit_at lanes.bits (digit + kind_less last.kind)) 0) [
              | inl none ↦ inl (here.3 ∙ (lane (digit + kind_less last.kind) s_in).1 none ∙ ap (λ (l : List ℕ). slice_index l (digit + kind_less last.kind)) old_is ∙ sym here.4)
              | inr some ↦
                  let has : bit_at lanes.bits (digit + kind_less last.kind) ≡ 1 = (let few = bit_at-lt lanes.bits (digit + kind_less last.kind) in omega (arith, few, some)) in
                  inr (digit, digit_in, subst (λ n. Has lanes (digit + n)) less_is has, here.2)
            ]
      ]
    ]

    pub put_lanes : (digit : ℕ) → digit < kind_digits men.last.kind → Has lanes (digit + kind_less men.last.kind)
        → slice_index (scores_in c (kind_less last.kind) shelves (set rows (side_number side * shelves + shelf) row)) (code_of c (number_in c shelf side digit)) ≡ slice_index scores (digit + kind_less men.last.kind)
    put_lanes digit below has =
        let few = number_below digit below in
        let s_in = square_in men.last.kind digit below in
        read c shelf side digit (subst (λ n. digit < n) (sym is.len) below) (kind_less last.kind) shelves (set rows (side_number side * shelves + shelf) row) (in_class (number_in c shelf side digit) few) (stands (number_in c shelf side digit) few)
        ∙ ap (λ n. slice_index (slice_index_or (set rows (side_number side * shelves + shelf) row) (side_number side * shelves + shelf) []) (digit + n)) less_is
        ∙ ap (λ (l : List ℕ). slice_index l (digit + kind_less men.last.kind)) (get_or-set_same rows (side_number side * shelves + shelf) row [] (place_in c (kind_less last.kind) shelves shelf side rows row are.some are.whole are.long shelf_below))
        ∙ (lane (digit + kind_less men.last.kind) s_in).0 has
