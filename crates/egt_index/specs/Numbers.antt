-- Numbers of positions: the codes without a target first, in their order, and then those with one, so that in either half they go on as the codes of a class
-- without targets do.
use Rattle.std.specs.Prelude.{ℕ, ◌+◌, ◌-◌, ◌*◌, ◌/◌, ◌%◌, nat_lt, if◌then◌else◌}
use Rattle.egt_board.specs.Prelude.{IsSettled, Setup}
use Rattle.egt_class.specs.Prelude.{material_of}
use Rattle.egt_index.specs.Code.{Spells}
use Rattle.egt_index.specs.Scales.{digits_at}
use Rattle.egt_index.specs.Shelf.{last_of}
use Rattle.egt_class.specs.Size.{has_target, men_beside, size_of}

-- how many digits the last man has: so many places a word of numbers has
unfoldable pub places : ℕ → ℕ
places c = digits_at (last_of (men_beside (material_of c)))

-- how many numbers have no target
unfoldable pub half_of : ℕ → ℕ
half_of c = if has_target (material_of c) then size_of c / 2 else size_of c

-- the code that the number stands for
unfoldable pub code_of : (c n : ℕ) → ℕ
code_of c n = if has_target (material_of c) then (if nat_lt n (half_of c) then 2 * n else 2 * (n - half_of c) + 1) else n

-- the number that stands for the code
unfoldable pub number_of : (c code : ℕ) → ℕ
number_of c code = if has_target (material_of c) then code / 2 + code % 2 * half_of c else code

-- the number stands for the settled position that its code spells
pub record IsNumbered (c n : ℕ) (p : Setup) : Type 0 where
  pub spells : Spells c (code_of c n) p
  pub settled : IsSettled p
