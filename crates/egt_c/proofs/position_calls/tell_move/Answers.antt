use Rattle.std.specs.Prelude.{refl}
use Rattle.egt_c.specs.Prelude.{NotLoaded, Best}
use Rattle.egt_c.proofs.position_calls.tell_move.Goals as goal

pub returns-in-Ok-best_move : goal.returns-in-Ok-best_move
returns-in-Ok-best_move c =
    rw c.in-Ok.is (Best c.in-Ok-best_move.told c.in-Ok-best_move.ensures.best c.none.ensures c.of_option.ensures)

pub returns-in-Err-best_move : goal.returns-in-Err-best_move
returns-in-Err-best_move c =
    rw c.in-Ok.is (NotLoaded c.in-Err-best_move.missing.class c.in-Err-best_move.ensures.missing c.missing.ensures refl)
