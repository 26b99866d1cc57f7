-- A board as at most four men in order of square, and the placement that they show.
use Rattle.std.specs.Prelude.{◌≡◌, ℕ, zero, suc, ◌<◌, ◌==◌, nat_lt, if◌then◌else◌, List, [], ◌∷◌, Option, Some, None, T}
use Rattle.std.specs.Ordering.{nat_cmp}
use Rattle.std.specs.FinMap as map
use Rattle.egt_board.specs.declared.man.Side.{Side}
use Rattle.egt_board.specs.declared.man.Side.TheVariants.{White, Black}
use Rattle.egt_board.specs.declared.man.Man.{Man}
use Rattle.egt_board.specs.Placement.{Placement}

-- a man and its square, or nothing
abbrev pub Slot : Type 0
Slot = Option (ℕ × Man)

-- the men of the slots
abbrev pub listed : List Slot → List (ℕ × Man)
listed [] = []
listed (None ∷ xs) = listed xs
listed (Some e ∷ xs) = e ∷ listed xs

-- n slots, the first of them with these men
abbrev pub padded : ℕ → List (ℕ × Man) → List Slot
padded zero es = []
padded (suc n) [] = None ∷ padded n []
padded (suc n) (e ∷ es) = Some e ∷ padded n es

-- what the slots show
abbrev pub placed : List Slot → Placement
placed xs = map.from_sorted (listed xs)

-- the squares strictly rise
abbrev pub InOrder : List (ℕ × Man) → Type 0
InOrder es = T (map.is_sorted nat_cmp es)

abbrev pub AreOnBoard : List (ℕ × Man) → Type 0
AreOnBoard [] = Unit {0}
AreOnBoard (e ∷ es) = (e.0 < 64) × AreOnBoard es

-- four slots: men in order of square, all of them on the board, and behind them nothing
pub record AreKept (xs : List Slot) : Type 0 where
  pub full : xs ≡ padded 4 (listed xs)
  pub in_order : InOrder (listed xs)
  pub on_board : AreOnBoard (listed xs)

-- the man of the slot, if it stands on the square
abbrev pub man_on : ℕ → Slot → Option Man
man_on s None = None
man_on s (Some e) = if s == e.0 then Some e.1 else None

abbrev pub is_side : Side → Side → ℕ
is_side White White = 1
is_side Black Black = 1
is_side White Black = 0
is_side Black White = 0

-- 1 at the square of the slot's man, if it is of that side
abbrev pub marks : Side → Slot → ℕ → ℕ
marks side None t = 0
marks side (Some e) t = if t == e.0 then is_side side e.1.side else 0

-- 1 at the square of the slot's man
abbrev pub takes : Slot → ℕ → ℕ
takes None t = 0
takes (Some e) t = if t == e.0 then 1 else 0

-- the number of the man's square, and of none one behind every square
abbrev pub place : Slot → ℕ
place None = 64
place (Some e) = e.0

-- what stands first when a man comes to a slot, and what is left over
abbrev pub lesser : Slot → Slot → Slot
lesser new x = if nat_lt (place x) (place new) then x else new

abbrev pub greater : Slot → Slot → Slot
greater new x = if nat_lt (place x) (place new) then new else (if nat_lt (place new) (place x) then x else None)
