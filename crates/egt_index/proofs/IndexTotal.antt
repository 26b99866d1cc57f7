-- The sum of what men add to an index is the index without its last digits.
use Rattle.std.specs.Prelude.{◌≡◌, ℕ, ◌<◌, Bool, true, ltb, refl}
use Rattle.egt_index.specs.Prelude.{ltb-true, all_below, passes_below, material_of, materials, size_of}

is_few : ℕ → Bool
is_few c = ltb (size_of c) 268435456

all_few : all_below is_few 36 ≡ true
unfolding all_below is_few size_of material_of materials
all_few = refl

pub few : (c : ℕ) → c < 36 → size_of c < 268435456
unfolding is_few
few c c_in = ltb-true (size_of c) 268435456 (passes_below is_few 36 c all_few c_in)
