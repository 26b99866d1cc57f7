use Rattle.std.proofs.Common.{◌∙◌, max, ap}
use Rattle.egt_check.specs.Prelude.{at}
use Rattle.egt_check.proofs.move_scores.exits.Goals as goal

pub returns-then-raise_first_taken : goal.returns-then-raise_first_taken
returns-then-raise_first_taken c = λ told a b a_in b_in.
    let taken = c.raise_first_taken.ensures c.if-raise_first_taken.true a b a_in b_in in
    let promoted = c.raise_pawns_promoted.ensures told a b a_in b_in in record {
      by_first = at c.taken_block.new.out a b;
      by_last = taken.0;
      last_promoted = promoted.0;
      first_promoted = promoted.1;
      first_raised = c.taken_block.ensures c.if-not-taken_block.false a b a_in b_in;
      last_raised = taken.1;
      last_is = promoted.2;
      first_is = promoted.3;
      is = promoted.4 ∙ ap (λ n. max n (max promoted.0 promoted.1)) taken.2;
    }
