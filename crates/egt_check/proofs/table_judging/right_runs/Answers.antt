use Rattle.std.proofs.Common.{arith}
use Rattle.egt_check.proofs.table_judging.right_runs.Goals as goal

pub returns : goal.returns
returns c = grind (arith, c.class.ensures.class, c.in_ok-pairs.ensures, c.requires.men.own_there, c.judged_pairs_hold_all_codes.ensures.pair, c.right_pairs.ensures, c.right_pairs-2.ensures)
