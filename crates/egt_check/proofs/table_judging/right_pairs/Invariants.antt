use Rattle.std.specs.Prelude.{◌≡◌, ℕ, true, false, get_or}
use Rattle.egt_check.specs.Prelude.{other_side, AreKept, AreTablesOf, IsJudgedPair, four_in, tables_in, Tables}
use Rattle.egt_check.specs.Prelude.{column_score}
use Rattle.egt_check.proofs.table_judging.right_pairs.Given as goal

-- the pairs that are marked so far are right, and what is kept holds
abbrev pub invariant-loop-n : goal.invariant-loop-n
invariant-loop-n l = record {
  right : (tables : Tables) → AreTablesOf (tables_in l.fn.part tables) (four_in l.fn.part l.four) l.men → (pair : ℕ) → get_or l.right pair false ≡ true → IsJudgedPair l.fn.part tables l.four.own l.men l.pairs l.side pair;
  kept : AreKept l.four.own.class (column_score l.four.own) l.men (other_side l.side) l.keys l.blocks;
}
