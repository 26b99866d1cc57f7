-- All men of a board, those beside the kings in whatever order.
use Rattle.std.specs.Prelude.{◌≡◌, ◌≢◌, ℕ, ◌<◌, ◌⊎◌, Option, Some, None, IfSome}
use Rattle.std.proofs.Common.{arith}
use Rattle.egt_board.specs.Prelude.{K, Man, White, Black, AreBeside, Placement, Stands, IsKingOn}
use Rattle.egt_board.specs.NonKings.{StandsBeside}

-- the two, if there are both, are on squares of their own
abbrev pub AreApart : Option (Man × ℕ) → Option (Man × ℕ) → Type 0
AreApart None other = Unit {0}
AreApart (Some e) None = Unit {0}
AreApart (Some e) (Some d) = e.1 ≢ d.1

-- these are the men who are no kings, each once
pub record HasBeside (men : Placement) (first second : Option (Man × ℕ)) : Type 0 where
  pub one : StandsBeside men first
  pub other : StandsBeside men second
  pub all : (s : ℕ) (man : Man) → Stands men s man → man.kind ≢ K → (first ≡ Some (man, s)) ⊎ (second ≡ Some (man, s))
  pub apart : AreApart first second

-- the kings stand on these squares, and these are the men beside them
pub record HasAllMen (men : Placement) (white black : ℕ) (one other : Option (Man × ℕ)) : Type 0 where
  pub white_there : IsKingOn men White white
  pub black_there : IsKingOn men Black black
  pub beside : HasBeside men one other

-- men in order of square are on squares of their own
apart_by_order : (first second : Option (Man × ℕ)) → IfSome first (λ e. IfSome second (λ d. e.1 < d.1)) → AreApart first second
apart_by_order None second order = tt
apart_by_order (Some e) None order = tt
apart_by_order (Some e) (Some d) order = λ same. omega (arith, order, same)

-- those listed in order of square are these men
pub in_any_order : (men : Placement) (first second : Option (Man × ℕ)) → AreBeside men first second → HasBeside men first second
in_any_order men first second are = record { one = are.one; other = are.other; all = are.all; apart = apart_by_order first second are.in_order }
