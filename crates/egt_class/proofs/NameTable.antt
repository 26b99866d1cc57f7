-- The table of names is right at each class.
use Rattle.std.proofs.Common.{◌≡◌, ℕ, ◌<◌, ◌&&◌, Bool, true, List, [], refl, lit<, slice_index, slice_index_or}
use Rattle.egt_class.specs.Prelude.{filter, and_parts, all_below, passes_below, materials, material_of, name_of}
use Rattle.egt_class.specs.Prelude.{is_letter, NAMES}
use Rattle.egt_class.proofs.Tables.{same_list, same_list-equal, all_less, all_less-at}

unfoldable row : ℕ → List ℕ
row c = slice_index_or NAMES c []

abbrev is_right : ℕ → Bool
is_right c = same_list (filter is_letter (row c)) (name_of c) && all_less (row c) 128

all_right : all_below is_right 36 ≡ true
unfolding all_below row same_list all_less name_of material_of materials
all_right = refl

right_at : (c : ℕ) → c < 36 → is_right c ≡ true
right_at c c_in = passes_below is_right 36 c all_right c_in

pub names_are_right : (c : ℕ) → c < 36 → filter is_letter (slice_index_or NAMES c []) ≡ name_of c
unfolding row
names_are_right c c_in = same_list-equal (filter is_letter (row c)) (name_of c) (and_parts _ _ (right_at c c_in)).0

pub names_are_ascii : (c : ℕ) → c < 36 → (k : ℕ) → slice_index (slice_index_or NAMES c []) k < 128
unfolding row
names_are_ascii c c_in k = all_less-at (row c) 128 k (lit< tt) (and_parts _ _ (right_at c c_in)).1
