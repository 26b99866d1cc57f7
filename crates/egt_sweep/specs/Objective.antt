-- The objective of a game, and what is known where moves leave it.
use Rattle.std.specs.Prelude.{ℕ}
use Rattle.std.proofs.Math.Bool.{Bool-set}
use Rattle.std.proofs.Props.{props}
use Rattle.egt_check.specs.Prelude.{near_tables, Tables, beside, HasReachChildren}
use Rattle.egt_entries.specs.declared.metric.Metric.{Metric}
use Rattle.egt_sweep.specs.declared.objective.Objective.{Objective}
use Rattle.egt_sweep.specs.declared.objective.Objective.TheVariants.{Mate, Zeroing, Reach}
use Rattle.egt_sweep.specs.MateColumn.{IsMateColumn, mate_table}
use Rattle.egt_entries.specs.declared.metric.Metric.TheVariants as metrics

-- which moves go on
abbrev pub metric_of : Objective → Metric
metric_of Mate = metrics.Mate
metric_of (Zeroing ranks) = metrics.Zeroing
metric_of Reach = metrics.Mate

-- the tables by whose mate columns exits are valued: those at hand, with the mate column of this class where the game has moves that leave it and stay
-- in the class; or the columns of the nearest mates, read as mate columns
abbrev pub known : Tables → ℕ → Objective → Tables
known tables c Mate = tables
known tables c (Zeroing ranks) = beside tables (mate_table c ranks.now)
known tables c Reach = near_tables tables

-- that column shows the values of the class's positions; or the children's tables have the column of the nearest mates
abbrev pub Knows : Tables → ℕ → Objective → Type 0
Knows tables c Mate = Unit {0}
Knows tables c (Zeroing ranks) = IsMateColumn c ranks.now
Knows tables c Reach = HasReachChildren tables c

-- such knowledge is a fact
pub reach_children_prop : (tables : Tables) (c : ℕ) → IsProp (HasReachChildren tables c)
reach_children_prop tables c = hlevel (props, Bool-set)
