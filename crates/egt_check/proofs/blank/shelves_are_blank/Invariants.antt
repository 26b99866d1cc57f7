use Rattle.std.specs.Prelude.{ℕ, ◌+◌, ◌<◌}
use Rattle.egt_check.specs.Prelude.{code_of, kind_digits, number_in, IsBlank}
use Rattle.egt_check.proofs.blank.shelves_are_blank.Given as goal

-- the shelves below this digit are
abbrev pub invariant-loop-digit : goal.invariant-loop-digit
invariant-loop-digit l = (x y : ℕ) → x < l.digit → y < kind_digits l.men.last.kind → IsBlank l.table l.column (code_of l.table.class (number_in l.table.class (l.first + x) l.side y))
