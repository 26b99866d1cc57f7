-- The codes of a class with one man beside the kings: those with the kings on two squares follow one another.
use Rattle.std.specs.Prelude.{◌≡◌, ◌≢◌, ℕ, ◌+◌, ◌*◌, ◌<◌, ◌≤◌, false, [], ◌∷◌, Some, None}
use Rattle.egt_class.specs.Prelude.{king_of, side_number, material_of}
use Rattle.egt_board.specs.declared.man.Man.{Man}
use Rattle.egt_board.specs.declared.man.Side.{Side}
use Rattle.egt_board.specs.declared.man.Side.TheVariants.{White, Black}
use Rattle.egt_index.specs.Scales.{kind_digits, kind_less}
use Rattle.egt_class.specs.Size.{has_target, men_in_order, size_of}
use Rattle.egt_index.specs.TellsMen.{TellsMen}
use Rattle.egt_index.specs.declared.stand.Stand.{Stand}

-- the kings and the man on these squares
abbrev pub lone_stand : (white black : ℕ) → Man → ℕ → Stand
lone_stand white black man s = record { white = white; black = black; first = Some (man, s); last = None }

-- he alone is beside the kings
pub record IsLoneMan (c : ℕ) (man : Man) : Type 0 where
  pub are : king_of White ∷ king_of Black ∷ man ∷ [] ≡ men_in_order (material_of c)
  pub beside : man ≢ king_of White

-- the codes from this one on tell them by his digit and the side to move
pub record IsLoneRow (c first white black : ℕ) (man : Man) : Type 0 where
  pub targets : has_target (material_of c) ≡ false
  pub within : first + 2 * kind_digits man.kind ≤ size_of c
  pub tells : (side : Side) (digit : ℕ) → digit < kind_digits man.kind → TellsMen false c (first + side_number side + 2 * digit) (lone_stand white black man (digit + kind_less man.kind)) side
