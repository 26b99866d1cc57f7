-- Positions by their men, as numbers.
use Rattle.std.specs.Prelude.{◌≡◌, ℕ, ◌<◌, ◌≤◌, ◌==◌, nat_lt, if◌then◌else◌, List, [], ◌∷◌, take, Option, Some, None}
use Rattle.egt_board.specs.Listed as listed
use Rattle.egt_board.specs.Setup.{Setup, IsAdmissible}
use Rattle.egt_board.specs.declared.fault.PosFault.{PosFault}
use Rattle.egt_board.specs.declared.fault.PosFault.TheVariants.{MenCount}
use Rattle.egt_board.specs.declared.man.Kind.{Kind}
use Rattle.egt_board.specs.declared.man.Kind.TheVariants.{Q, R, B, N, P, K}
use Rattle.egt_board.specs.declared.man.Man.{Man}
use Rattle.egt_board.specs.declared.man.Side.{Side}
use Rattle.egt_board.specs.declared.man.Side.TheVariants.{White, Black}
use Rattle.egt_c.specs.declared.fault.EgtbFault.{EgtbFault}
use Rattle.egt_c.specs.declared.men.EgtbMan.{EgtbMan}
use Rattle.egt_c.specs.declared.men.EgtbPosition.{EgtbPosition}
use Rattle.egt_c.specs.Fault.{of_setup, no_man}

abbrev pub side_of : ℕ → Option Side
side_of n = if n == 0 then Some White else (if n == 1 then Some Black else None)

abbrev pub kind_of : ℕ → Option Kind
kind_of n = if n == 1 then Some P else (if n == 2 then Some N else (if n == 3 then Some B else (if n == 4 then Some R else (if n == 5 then Some Q else (if n == 6 then Some K else None)))))

-- 64 is no square
abbrev pub square_of : ℕ → Option ℕ
square_of n = if nat_lt n 64 then Some n else None

abbrev pub some_target : Option ℕ → Option (Option ℕ)
some_target None = None
some_target (Some s) = Some (Some s)

-- 64 is no target
abbrev pub target_of : ℕ → Option (Option ℕ)
target_of n = if n == 64 then Some None else some_target (square_of n)

abbrev pub man_on : Option ℕ → Option Side → Option Kind → Option (Man × ℕ)
man_on (Some square) (Some side) (Some kind) = Some (record { side = side; kind = kind }, square)
man_on (Some square) (Some side) None = None
man_on (Some square) None kind = None
man_on None side kind = None

-- the man and his square, where each number names one
abbrev pub man_of : EgtbMan → Option (Man × ℕ)
man_of g = man_on (square_of g.square) (side_of g.side) (kind_of g.kind)

abbrev pub joined : Option (Man × ℕ) → Option (List (Man × ℕ)) → Option (List (Man × ℕ))
joined (Some m) (Some ms) = Some (m ∷ ms)
joined (Some m) None = None
joined None ms = None

abbrev pub men_of : List EgtbMan → Option (List (Man × ℕ))
men_of [] = Some []
men_of (g ∷ gs) = joined (man_of g) (men_of gs)

-- the numbers name these men, that side and that target
pub record Names (g : EgtbPosition) (men : List (Man × ℕ)) (side : Side) (target : Option ℕ) : Type 0 where
  pub few : g.count ≤ 4
  pub men_named : men_of (take g.count g.men) ≡ Some men
  pub side_named : side_of g.side ≡ Some side
  pub target_named : target_of g.target ≡ Some target

-- it is the position of the men that the numbers name
pub record IsOfMen (g : EgtbPosition) (p : Setup) : Type 0 where
  pub men : List (Man × ℕ)
  pub side : Side
  pub target : Option ℕ
  pub names : Names g men side target
  pub is : p ≡ listed.setup_of men side target
  pub admissible : IsAdmissible p

-- there are too many men, a number names nothing, or what is named is no position
pub data IsMenFault (g : EgtbPosition) (fault : EgtbFault) : Type 0 where
  ManyMen : 4 < g.count → fault ≡ of_setup MenCount → IsMenFault g fault
  NoMan : g.count ≤ 4 → men_of (take g.count g.men) ≡ None → fault ≡ no_man → IsMenFault g fault
  NoSide : g.count ≤ 4 → side_of g.side ≡ None → fault ≡ no_man → IsMenFault g fault
  NoTarget : g.count ≤ 4 → target_of g.target ≡ None → fault ≡ no_man → IsMenFault g fault
  NoPosition : (f : PosFault) (men : List (Man × ℕ)) (side : Side) (target : Option ℕ) → Names g men side target →
      listed.IsFirstFault f men (listed.setup_of men side target) → fault ≡ of_setup f → IsMenFault g fault
