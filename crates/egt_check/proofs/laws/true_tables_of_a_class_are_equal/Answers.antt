use Rattle.std.specs.Prelude.{◌≡◌}
use Rattle.egt_check.specs.Prelude.{Mate, Zeroing, Metric, Tells, Setup, Value}
use Rattle.egt_check.proofs.EqualTables.{One, equal_tables}
use Rattle.egt_check.proofs.laws.true_tables_of_a_class_are_equal.Goals as goal

one : (c : goal.After-one_reach) → One
one c = record { or_void = c.a_code_is_an_index_or_void.ensures; told = told; reach = c.one_reach.ensures }
  where
    told : (metric : Metric) (p : Setup) (v w : Value) → Tells metric p v → Tells metric p w → v ≡ w
    told Mate = c.one_value.ensures.one
    told Zeroing = c.one_zeroing_distance.ensures

pub returns : goal.returns
returns c = λ t u t_sized u_sized class both t_true u_true. equal_tables (one c) t u t_sized u_sized class t_true u_true both
