use Rattle.std.proofs.Common.{refl, replicate}
use Rattle.egt_check.specs.Prelude.{other_side, column_score}
use Rattle.egt_check.proofs.RunsKept.{unmarked}
use Rattle.egt_check.proofs.table_judging.right_pairs.Goals as goal

pub loop-n-init : goal.loop-n-init
loop-n-init c = record {
  right = λ tables are pair marked. absurd (unmarked 2048 pair marked);
  kept = c.no_keys-keys.ensures c.args.four.now.own.class (column_score c.args.four.now.own) c.args.men.now (other_side c.args.side) (replicate 38 c.nothing-blocks.result) refl;
}
