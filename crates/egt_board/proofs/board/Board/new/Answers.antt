use Rattle.egt_board.proofs.Slots.{shown_empty, placed_of, kept_of}
use Rattle.egt_board.proofs.board.Board.new.Goals as goal

pub invariant_of-result : goal.invariant_of-result
invariant_of-result c = kept_of _ _ shown_empty

pub returns : goal.returns
returns c = placed_of _ _ shown_empty
