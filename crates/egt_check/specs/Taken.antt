-- The tables of the classes that captures and advances lead to.
use Rattle.std.specs.Prelude.{◌≡◌, Bool, Some}
use Rattle.egt_table.specs.Prelude.{IsTable, TableValue}
use Rattle.egt_steps.specs.Prelude.{IsClassAfter, IsClassOf}
use Rattle.egt_entries.specs.Prelude.{Tables}
use Rattle.egt_board.specs.declared.man.Man.{Man}
use Rattle.egt_check.specs.Worth.{HasBytes}

-- the table of the class of three in which the man is left, who is its own in colours exchanged where `flips`
pub record IsTableOf (tables : Tables) (t : TableValue) (flips : Bool) (man : Man) : Type 0 where
  pub is_table : IsTable t
  pub found : tables t.class ≡ Some t
  pub bytes : HasBytes t
  pub class_of : IsClassOf t.class flips man

-- the table of the class after an advance
pub record IsTableAfter (tables : Tables) (t : TableValue) (before flips : Bool) (one man : Man) : Type 0 where
  pub is_table : IsTable t
  pub found : tables t.class ≡ Some t
  pub bytes : HasBytes t
  pub class_after : IsClassAfter before t.class flips one man
