-- Squares between others on a file, a rank or a diagonal.
use Rattle.std.specs.Prelude.{◌≡◌, ℕ, ◌+◌, ◌<◌}
use Rattle.egt_board.specs.declared.step.Way.{Way}
use Rattle.egt_board.specs.declared.step.Way.TheVariants.{Up, Down, Still}
use Rattle.egt_board.specs.declared.step.Step.{Step}
use Rattle.egt_board.specs.AttackLines.{step}
use Rattle.egt_board.specs.Step.{Away}

abbrev pub size_of_way : Way → ℕ
size_of_way Up = 1
size_of_way Down = 1
size_of_way Still = 0

-- at most one file and one rank, these ways
abbrev pub unit : Way → Way → Step
unit files ranks = step files (size_of_way files) ranks (size_of_way ranks)

-- a step to a neighbour, along a file, a rank or a diagonal
pub record IsRoyal (d : Step) : Type 0 where
  pub files : Way
  pub ranks : Way
  pub is : d ≡ unit files ranks
  pub moves : 0 < size_of_way files + size_of_way ranks

-- u is strictly between s and t on one line
pub record IsBetween (s t u : ℕ) : Type 0 where
  pub step : Step
  pub royal : IsRoyal step
  pub near : ℕ
  pub far : ℕ
  pub some : 0 < near
  pub less : near < far
  pub here : Away step near s u
  pub there : Away step far s t
