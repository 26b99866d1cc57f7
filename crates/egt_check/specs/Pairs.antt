-- The shelves of a class with two men beside the kings, by the pairs of squares that the kings stand on.
use Rattle.std.specs.Prelude.{◌≡◌, ℕ, ◌+◌, ◌*◌, ◌<◌, ◌≤◌, true}
use Rattle.egt_index.specs.Prelude.{material_of, places, ends_of, kind_digits, has_target, size_of}
use Rattle.egt_entries.specs.Prelude.{TableValue, Tables}
use Rattle.egt_board.specs.declared.man.Side.{Side}
use Rattle.egt_index.specs.declared.shelf_codes.ShelfMen.{ShelfMen}
use Rattle.egt_check.specs.RightBlock.{AreJudged}
use Rattle.egt_check.specs.declared.pairs.Pairs.{Pairs}
use Rattle.egt_check.specs.declared.part.Part.{Part}

-- each pair has a shelf for each digit of the first man, and as many `half` further on where there are targets; its codes follow one another, and the pairs
-- have all codes of the class
pub record ArePairs (c : ℕ) (men : ShelfMen) (pairs : Pairs) : Type 0 where
  pub wide : places c ≡ kind_digits men.last.kind
  pub step : pairs.step ≡ kind_digits men.first.kind
  pub half : has_target (material_of c) ≡ true → pairs.half ≡ 64 * pairs.kings * pairs.step
  pub codes : pairs.codes ≡ ends_of (material_of c) * places c * pairs.step
  pub all : 64 * pairs.kings * pairs.codes ≡ size_of c
  pub few : pairs.kings ≤ 32
  pub room : 64 * pairs.kings * pairs.step + pairs.half + 64 < 4294967296

-- the part's entries of this pair's shelves, and of those `half` further on, keep the rules with that side to move
abbrev pub IsJudgedPair : (part : Part) (tables : Tables) (t : TableValue) (men : ShelfMen) (pairs : Pairs) (side : Side) (pair : ℕ) → Type 0
IsJudgedPair part tables t men pairs side pair = AreJudged part tables t men (pair * pairs.step) side × AreJudged part tables t men (pair * pairs.step + pairs.half) side

-- so are those of all pairs
abbrev pub AreJudgedPairs : (part : Part) (tables : Tables) (t : TableValue) (men : ShelfMen) (pairs : Pairs) (side : Side) → Type 0
AreJudgedPairs part tables t men pairs side = (pair : ℕ) → pair < 64 * pairs.kings → IsJudgedPair part tables t men pairs side pair
