-- Numbers of what C reads as numbers.
use Rattle.std.specs.Prelude.{ℕ}
use Rattle.egt_board.specs.declared.man.Side.{Side}
use Rattle.egt_board.specs.declared.man.Side.TheVariants.{White, Black}
use Rattle.egt_entries.specs.declared.rule.Rule.{Rule}
use Rattle.egt_entries.specs.declared.rule.Rule.TheVariants as rules
use Rattle.egt_table.specs.declared.column.Column.{Column}
use Rattle.egt_table.specs.declared.column.Column.TheVariants as columns

abbrev pub column_place : Column → ℕ
column_place columns.Mate = 1
column_place columns.Zeroing = 2
column_place columns.Reach = 3

abbrev pub rule_place : Rule → ℕ
rule_place rules.Void = 1
rule_place rules.Range = 2
rule_place rules.Kind = 3
rule_place rules.Win = 4
rule_place rules.Loss = 5
rule_place rules.Draw = 6
rule_place rules.Reach = 7
rule_place rules.Dead = 8

abbrev pub winner_number : Side → ℕ
winner_number White = 2
winner_number Black = 3
