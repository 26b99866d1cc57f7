-- The order of moves backwards: by the moved man's square now, then its square before, then a position without a
-- target ahead of one with.
use Rattle.std.specs.Prelude.{ℕ, ◌+◌, ◌*◌, ◌<◌, ◌↔◌, List, [], ◌∷◌, Option, Some, None}
use Rattle.egt_moves.specs.Prelude.{Contains, Setup}
use Rattle.egt_moves.specs.declared.chess_move.Move.{Move}
use Rattle.egt_unmoves.specs.declared.unmove.Unmove.{Unmove}
use Rattle.egt_unmoves.specs.Unmoves.{TakesBack}

abbrev pub target_place : Option ℕ → ℕ
target_place None = 0
target_place (Some t) = 1

-- a number that is less for the unmove that comes first, which takes the move back
abbrev pub place_of : Unmove → Move → ℕ
place_of u m = (m.to * 64 + m.from) * 2 + target_place u.before.target

-- whatever moves they take back
abbrev pub ComesFirst : Setup → Unmove → Unmove → Type 0
ComesFirst q u w = (m n : Move) → TakesBack u m q → TakesBack w n q → place_of u m < place_of w n

-- each unmove comes before those behind it
abbrev pub IsInOrder : Setup → List Unmove → Type 0
IsInOrder q [] = Unit {0}
IsInOrder q (u ∷ us) = ((w : Unmove) → Contains us w → ComesFirst q u w) × IsInOrder q us

-- the list has, in order, exactly the unmoves whose place is less than k
pub record ListsBelow (q : Setup) (k : ℕ) (us : List Unmove) : Type 0 where
  pub ordered : IsInOrder q us
  pub exact : (u : Unmove) → Contains us u ↔ ((m : Move) × TakesBack u m q × (place_of u m < k))
