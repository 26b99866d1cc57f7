-- The scores of all codes of a class, kept as rows.
use Rattle.std.specs.Prelude.{◌≡◌, ℕ, ◌+◌, ◌*◌, ◌/◌, ◌%◌, ◌<◌, ◌≤◌, ◌⊎◌, ◌==◌, if◌then◌else◌, List, [], length, map}
use Rattle.std.specs.Prelude.{slice_index, slice_index_or}
use Rattle.egt_index.specs.Prelude.{bit_at, range_with_len, Has, IsVoid, code_of, places, kind_digits, kind_less}
use Rattle.egt_index.specs.Prelude.{AreMenOf, HasTwoBeside, number_in, size_of}
use Rattle.egt_board.specs.declared.man.Kind.TheVariants.{P}
use Rattle.egt_board.specs.declared.man.Man.{Man}
use Rattle.egt_board.specs.declared.man.Side.{Side}
use Rattle.egt_board.specs.declared.square_set.SquareSet.{SquareSet}
use Rattle.egt_index.specs.Numbers.{number_of}
use Rattle.egt_index.specs.declared.shelf_codes.ShelfMen.{ShelfMen}

-- a score for each code of the class
pub record CodeScores : Type 0 where
  pub class : ℕ
  pub scores : List ℕ

-- that of the number: in the row of its shelf and side to move, those with White to move first, at the last man's square
abbrev pub score_of : (c less shelves : ℕ) (rows : List (List ℕ)) (n : ℕ) → ℕ
score_of c less shelves rows n = slice_index (slice_index_or rows (n % (2 * places c) % 2 * shelves + n / (2 * places c)) []) (n % (2 * places c) / 2 + less)

unfoldable pub scores_in : (c less shelves : ℕ) (rows : List (List ℕ)) → List ℕ
scores_in c less shelves rows = map (λ code. score_of c less shelves rows (number_of c code)) (range_with_len 0 (size_of c))

-- there is a row for each shelf of the class and side to move, with nothing where its last man may not stand
pub record AreWholeRows (c : ℕ) (last : Man) (shelves : ℕ) (rows : List (List ℕ)) : Type 0 where
  pub below : c < 36
  pub men_of : (men : ShelfMen) → AreMenOf c men → men.last ≡ last
  pub two : HasTwoBeside c
  pub digits : places c ≡ kind_digits last.kind
  pub some : 0 < places c
  pub whole : shelves * (2 * places c) ≡ size_of c
  pub few : shelves < 4294967296
  pub long : length rows ≡ 2 * shelves
  pub edges : last.kind ≡ P → (r s : ℕ) → s < 64 → (s < 8) ⊎ (56 ≤ s) → slice_index (slice_index_or rows r []) s ≡ 0

-- the code is the shelf's with that side to move and the last man on one of these squares
abbrev pub IsLaneIn : (c : ℕ) → ShelfMen → (shelf : ℕ) → Side → SquareSet → ℕ → Type 0
IsLaneIn c men shelf side lanes code = (digit : ℕ) × (digit < kind_digits men.last.kind) × Has lanes (digit + kind_less men.last.kind) × (code ≡ code_of c (number_in c shelf side digit))

-- void codes have no score
abbrev pub HasNoVoidScore : CodeScores → Type 0
HasNoVoidScore v = (code : ℕ) → IsVoid v.class code → slice_index v.scores code ≡ 0

-- a code that is an index has the score of a draw
abbrev pub IsDrawnIndex : CodeScores → ℕ → Type 0
IsDrawnIndex v code = ¬ IsVoid v.class code → slice_index v.scores code ≡ 128

-- no code has another score
abbrev pub AreDrawnOrNone : CodeScores → Type 0
AreDrawnOrNone v = (code : ℕ) → (slice_index v.scores code ≡ 0) ⊎ (slice_index v.scores code ≡ 128)

-- the mask is not 0 exactly on these squares
abbrev pub IsMaskOf : SquareSet → List ℕ → Type 0
IsMaskOf lanes mask = (s : ℕ) → s < 64 → bit_at lanes.bits s ≡ (if slice_index mask s == 0 then 0 else 1)
