-- The table of sizes is right at each class.
use Rattle.std.specs.Prelude.{◌≡◌, ℕ, ◌<◌, ◌==◌, Bool, true, refl, slice_index}
use Rattle.egt_class.specs.Prelude.{eqb-true, all_below, passes_below, materials, material_of, size_of, SIZES}

abbrev is_right : ℕ → Bool
is_right c = slice_index SIZES c == size_of c

all_right : all_below is_right 36 ≡ true
unfolding all_below size_of material_of materials
all_right = refl

pub sizes_are_right : (c : ℕ) → c < 36 → slice_index SIZES c ≡ size_of c
sizes_are_right c c_in = eqb-true (slice_index SIZES c) (size_of c) (passes_below is_right 36 c all_right c_in)
