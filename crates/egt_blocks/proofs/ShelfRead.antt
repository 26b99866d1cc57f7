-- A row of a shelf, read by the last man's square.
use Rattle.std.proofs.Common.{◌≡◌, ℕ, ◌+◌, ◌-◌, ◌*◌, ◌/◌, ◌%◌, ◌<◌, ◌≤◌, ◌⊎◌, if◌then◌else◌, Bool, true, false, List}
use Rattle.std.proofs.Common.{[], ◌∷◌, take, drop, arith, refl, sym, ap, ◌∙◌, inl, inr, subst, slice_index}
use Rattle.egt_blocks.specs.Prelude.{cases_lt, MayStand, Material, kind_less, IsShelfOf, IsWithin, number_in, code_high}
use Rattle.egt_blocks.specs.Prelude.{get_or-drop, get_or-take, side_number, P, material_of, half_targets, one_pawn_each}
use Rattle.egt_blocks.specs.Prelude.{Kind, Man, Side, White, last_of, bases, size_of, list_of, Stand, is_pawn}
use Rattle.egt_blocks.specs.Prelude.{number_from, digits_at, kind_digits, stand_with, has_target, men_beside, IsShelfRow}
use Rattle.egt_blocks.specs.Prelude.{product, code_of, half_of, places, IsListed, TellsMen, ShelfMen, code_low, IsRaised}

-- an entry of a piece of a list
pub piece_at : (xs : List ℕ) (first len k : ℕ) → k < len → slice_index (take (first + len - first) (drop first xs)) k ≡ slice_index xs (first + k)
piece_at xs first len k k_in = get_or-take (first + len - first) (drop first xs) k 0 (omega arith) ∙ get_or-drop first xs k 0

pub pawn_digits : (kind : Kind) → is_pawn kind ≡ true → (kind ≡ P) × (kind_digits kind ≡ 48) × (kind_less kind ≡ 8)
pawn_digits P is = (refl, refl, refl)
pawn_digits kind is = grind arith

pub piece_digits : (kind : Kind) → is_pawn kind ≡ false → (kind_digits kind ≡ 64) × (kind_less kind ≡ 0)
piece_digits kind is = grind arith

-- a digit is that of a square
pub square_in : (kind : Kind) (digit : ℕ) → digit < kind_digits kind → digit + kind_less kind < 64
square_in kind digit below = grind arith

pub side_few : (side : Side) → side_number side < 2
side_few side = grind arith

-- ---- the class with targets

abbrev pub bit_of : Bool → ℕ
bit_of targeted = if targeted then 1 else 0

pub bit_few : (targeted : Bool) → bit_of targeted < 2
bit_few targeted = grind arith

-- the code's last digit is that of the target
pub target_digit : (c code : ℕ) (stand : Stand) (side : Side) (targeted : Bool) → has_target (material_of c) ≡ true → TellsMen targeted c code stand side → code % 2 ≡ bit_of targeted
target_digit c code stand side targeted has tells = by targeted (tells.ends.number_is ∙ ap (λ b. number_from tells.number (2 ∷ (if b then 2 ∷ [] else [])) (side_number side ∷ (if b then bit_of targeted ∷ [] else []))) has)
  where
    by : (targeted : Bool) → code ≡ number_from tells.number (2 ∷ 2 ∷ []) (side_number side ∷ bit_of targeted ∷ []) → code % 2 ≡ bit_of targeted
    by targeted is = grind arith

pub half_is : (c : ℕ) → has_target (material_of c) ≡ true → (size_of c ≡ 18874368) × (half_of c ≡ 9437184)
unfolding size_of
half_is c has = let size : size_of c ≡ 18874368 = ap (λ (m : Material). product (bases m)) (one_pawn_each c has) in let half = half_targets c has in (size, omega (arith, size, half))

pub places_is : (c : ℕ) → has_target (material_of c) ≡ true → places c ≡ 48
unfolding places
places_is c has = ap (λ (m : Material). digits_at (last_of (men_beside m))) (one_pawn_each c has)

-- whose last man is a pawn
pub pawn_of_digits : (kind : Kind) → kind_digits kind ≡ 48 → (kind ≡ P) × (kind_less kind ≡ 8)
pawn_of_digits kind is = grind arith

module _ (c shelf : ℕ) (has : has_target (material_of c) ≡ true) (within : IsWithin c shelf) where
  abbrev first : ℕ
  first = shelf * (2 * places c)

  first_is : first ≡ shelf * 96
  first_is = ap (λ p. shelf * (2 * p)) (places_is c has)

  ends : (shelf + 1) * 96 ≤ 18874368
  ends = grind (arith, half_is, places_is)

  -- the shelf lies in one half of the numbers
  pub code_in_shelf : (k : ℕ) → k < 96 → code_of c (first + k) ≡ code_of c first + 2 * k
  code_in_shelf k k_in = grind (arith, half_is, cases_lt, half_of, first_is, code_low, code_high)

  pub first_within : code_of c first / 2 * 2 + 192 ≤ size_of c
  first_within = grind (arith, half_is, cases_lt, half_of, code_low, first_is, code_high, ends)

  -- so is a target's digit alone left out
  pub first_of_shelf : (men : ShelfMen) (targeted : Bool) → IsShelfOf targeted c shelf men → code_of c first / 2 * 2 + bit_of targeted ≡ code_of c first
  first_of_shelf men targeted is =
      let some : 0 < kind_digits men.last.kind = omega (arith, is.0.len, places_is c has) in
      let number : number_in c shelf White 0 ≡ first = omega arith in
      let digit = target_digit c (code_of c (number_in c shelf White 0)) (stand_with men (0 + kind_less men.last.kind)) White is.0.targeted has (is.0.tells White 0 some) in
      let bit = ap bit_of is.1 in
      let code = ap (code_of c) number in
      omega (arith, digit, bit, code)

-- ---- what a row of a shelf's scores tells

module _ (targeted : Bool) (c : ℕ) (worth : ℕ → ℕ) (men : ShelfMen) (shelf : ℕ) (side : Side) (is : IsShelfOf targeted c shelf men)
    (one : (targeted : Bool) (c x y : ℕ) (stand : Stand) (side : Side) → TellsMen targeted c x stand side → TellsMen targeted c y stand side → x ≡ y)
    (pawns : (targeted : Bool) (c code : ℕ) (stand : Stand) (side : Side) (man : Man) (s : ℕ) → TellsMen targeted c code stand side → IsListed (list_of stand) man s → MayStand man s) where
  abbrev pub Told : ℕ → ℕ → Type 0
  Told s code = TellsMen targeted c code (stand_with men s) side

  abbrev code_at : ℕ → ℕ
  code_at digit = code_of c (number_in c shelf side digit)

  -- the code with this digit tells the men with the last one on its square
  told : (s digit : ℕ) → digit < kind_digits men.last.kind → digit + kind_less men.last.kind ≡ s → Told s (code_at digit)
  told s digit below at = subst (λ b. TellsMen b c (code_at digit) (stand_with men s) side) is.1 (subst (λ k. TellsMen is.0.targeted c (code_at digit) (stand_with men k) side) at (is.0.tells side digit below))

  pub read_digit : (s digit v : ℕ) → digit < kind_digits men.last.kind → digit + kind_less men.last.kind ≡ s → v ≡ worth (code_at digit) → IsRaised 0 (Told s) worth v
  read_digit s digit v below at value =
      let here = told s digit below at in
      record {
        kept = omega arith;
        above = λ code there. let same = ap worth (one targeted c code (code_at digit) (stand_with men s) side there here) in omega (arith, same, value);
        reached = inr (code_at digit, here, value);
      }

  -- no code has a pawn on the first rank or the last
  read_edge : (s v : ℕ) → men.last.kind ≡ P → (s < 8) ⊎ (56 ≤ s) → v ≡ 0 → IsRaised 0 (Told s) worth v
  read_edge s v pawn edge none = record {
    kept = omega arith;
    above = λ code there. absurd (let may = pawns targeted c code (stand_with men s) side men.last s there (inr (inr (inr (inl (refl, refl))))) pawn in elim edge [
      | inl low ↦ omega (arith, may.0)
      | inr high ↦ omega (arith, may.1)
    ]);
    reached = inl none;
  }

  pub row_read : (row : List ℕ) → IsShelfRow c worth men shelf side row → (s : ℕ) → s < 64 → IsRaised 0 (Told s) worth (slice_index row s)
  row_read row rows s s_in = by (is_pawn men.last.kind) refl
    where
      at_digit : (digit : ℕ) → digit < kind_digits men.last.kind → digit + kind_less men.last.kind ≡ s → IsRaised 0 (Told s) worth (slice_index row s)
      at_digit digit below at = read_digit s digit (slice_index row s) below at (ap (slice_index row) (sym at) ∙ rows.digits digit below)

      by : (pawn : Bool) → is_pawn men.last.kind ≡ pawn → IsRaised 0 (Told s) worth (slice_index row s)
      by false kind = let digits = piece_digits men.last.kind kind in at_digit s (omega (arith, digits.0, s_in)) (omega (arith, digits.1))
      by true kind = let digits = pawn_digits men.last.kind kind in elim (cases_lt s 8) [
        | inl low ↦ read_edge s (slice_index row s) digits.0 (inl low) (rows.edges digits.0 s s_in (inl low))
        | inr from ↦ elim (cases_lt s 56) [
          | inl to ↦ at_digit (s - 8) (omega (arith, digits.1, from, to)) (omega (arith, digits.2, from))
          | inr high ↦ read_edge s (slice_index row s) digits.0 (inr high) (rows.edges digits.0 s s_in (inr high))
        ]
      ]
