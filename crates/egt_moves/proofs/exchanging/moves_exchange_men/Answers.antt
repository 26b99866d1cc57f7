use Rattle.egt_moves.proofs.MenExchanged.{exchanged}
use Rattle.egt_moves.proofs.exchanging.moves_exchange_men.Goals as goal

pub returns : goal.returns
returns c = exchanged (record { put = c.one_square_changes.ensures.put; cleared = c.one_square_changes.ensures.cleared })
