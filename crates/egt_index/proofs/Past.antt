-- Numbers past those of the classes.
use Rattle.std.specs.Prelude.{◌≡◌, ℕ, ◌≤◌, []}
use Rattle.egt_index.specs.Prelude.{get_or_past, material_of, materials, beside}

-- they have no men beside the kings
pub past : (c : ℕ) → 36 ≤ c → material_of c ≡ beside [] []
unfolding material_of materials
past c le = get_or_past materials c (beside [] []) le
