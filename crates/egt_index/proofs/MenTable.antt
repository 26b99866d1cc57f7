-- The table of the men beside the kings, and what the classes' numbers tell of pawns.
use Rattle.std.proofs.Common.{◌≡◌, ℕ, ◌<◌, ◌++◌, Bool, true, false, eqb, List, map, Option, Some, None, IfSome, ◌≢◌}
use Rattle.std.proofs.Common.{◌&&◌, not, arith, refl, ◌∙◌, subst, slice_index_or}
use Rattle.egt_index.specs.Prelude.{range_with_len, option_to_list, get_or-map, get_or_default, eq-eqb, and_parts}
use Rattle.egt_index.specs.Prelude.{get_or-map-range_with_len, Man, man_number, king_of, White, all_below, passes_below}
use Rattle.egt_index.specs.Prelude.{material_of, materials, has_equal_sides, men_beside, has_pawns, has_target}
use Rattle.egt_index.specs.Prelude.{NON_KINGS, PAWNS, EQUAL_SIDES}
use Rattle.egt_index.proofs.Tested.{not_both}

men_of_row : Option Man × Option Man → List Man
men_of_row row = option_to_list row.0 ++ option_to_list row.1

rows : map men_of_row NON_KINGS ≡ map (λ c. men_beside (material_of c)) (range_with_len 0 36)
unfolding men_of_row material_of materials
rows = refl

pub row_is : (c : ℕ) (d : Option Man × Option Man) → c < 36 → option_to_list (slice_index_or NON_KINGS c d).0 ++ option_to_list (slice_index_or NON_KINGS c d).1 ≡ men_beside (material_of c)
unfolding men_of_row
row_is c d c_in = grind (arith, get_or-map, rows, get_or-map-range_with_len)

unfoldable pub agree : Bool → Bool → Bool
agree true b = b
agree false true = false
agree false false = true

pub agreed : (a b : Bool) → agree a b ≡ true → a ≡ b
unfolding agree
agreed a b h = grind arith

pawns_agree : all_below (λ c. agree (slice_index_or PAWNS c false) (has_pawns (material_of c))) 36 ≡ true
unfolding all_below agree material_of materials
pawns_agree = refl

pub pawns_are : (c : ℕ) (d : Bool) → c < 36 → slice_index_or PAWNS c d ≡ has_pawns (material_of c)
pawns_are c d c_in = get_or_default PAWNS c d false c_in ∙ agreed _ _ (passes_below (λ c. agree (slice_index_or PAWNS c false) (has_pawns (material_of c))) 36 c pawns_agree c_in)

targets_agree : all_below (λ c. agree (eqb c 35) (has_target (material_of c))) 36 ≡ true
unfolding all_below agree material_of materials
targets_agree = refl

pub targets_are : (c : ℕ) → c < 36 → eqb c 35 ≡ has_target (material_of c)
targets_are c c_in = agreed _ _ (passes_below (λ c. agree (eqb c 35) (has_target (material_of c))) 36 c targets_agree c_in)

is_no_king : Option Man → Bool
is_no_king None = true
is_no_king (Some man) = not (eqb (man_number man) (man_number (king_of White)))

are_no_kings : all_below (λ c. is_no_king (slice_index_or NON_KINGS c (None, None)).0 && is_no_king (slice_index_or NON_KINGS c (None, None)).1) 36 ≡ true
unfolding all_below is_no_king
are_no_kings = refl

no_king_told : (o : Option Man) → is_no_king o ≡ true → IfSome o (λ man. man ≢ king_of White)
unfolding is_no_king
no_king_told o h = grind (arith, not_both, eq-eqb)

pub no_king : (c : ℕ) (d : Option Man × Option Man) → c < 36 → IfSome (slice_index_or NON_KINGS c d).0 (λ man. man ≢ king_of White) × IfSome (slice_index_or NON_KINGS c d).1 (λ man. man ≢ king_of White)
no_king c d c_in =
    let both = and_parts _ _ (passes_below (λ k. is_no_king (slice_index_or NON_KINGS k (None, None)).0 && is_no_king (slice_index_or NON_KINGS k (None, None)).1) 36 c are_no_kings c_in) in
    let same : slice_index_or NON_KINGS c (None, None) ≡ slice_index_or NON_KINGS c d = get_or_default NON_KINGS c (None, None) d c_in in
    subst (λ row. IfSome row.0 (λ man. man ≢ king_of White) × IfSome row.1 (λ man. man ≢ king_of White)) same (no_king_told _ both.0, no_king_told _ both.1)

-- no row has the second man alone
is_filled : Option Man × Option Man → Bool
is_filled (None, None) = true
is_filled (None, Some man) = false
is_filled (Some man, second) = true

all_filled : all_below (λ c. is_filled (slice_index_or NON_KINGS c (None, None))) 36 ≡ true
unfolding all_below is_filled
all_filled = refl

filled_told : (row : Option Man × Option Man) → is_filled row ≡ true → row.0 ≡ None → row.1 ≡ None
unfolding is_filled
filled_told row h none = grind arith

pub from_first : (c : ℕ) (d : Option Man × Option Man) → c < 36 → (slice_index_or NON_KINGS c d).0 ≡ None → (slice_index_or NON_KINGS c d).1 ≡ None
from_first c d c_in =
    filled_told (slice_index_or NON_KINGS c d) (subst (λ row. is_filled row ≡ true) (get_or_default NON_KINGS c (None, None) d c_in) (passes_below (λ k. is_filled (slice_index_or NON_KINGS k (None, None))) 36 c all_filled c_in))

sides_agree : all_below (λ c. agree (slice_index_or EQUAL_SIDES c false) (has_equal_sides c)) 36 ≡ true
unfolding all_below agree has_equal_sides material_of materials
sides_agree = refl

pub sides_are : (c : ℕ) (d : Bool) → c < 36 → slice_index_or EQUAL_SIDES c d ≡ has_equal_sides c
sides_are c d c_in = get_or_default EQUAL_SIDES c d false c_in ∙ agreed _ _ (passes_below (λ c. agree (slice_index_or EQUAL_SIDES c false) (has_equal_sides c)) 36 c sides_agree c_in)
