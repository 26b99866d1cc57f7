use Rattle.egt_graph.proofs.Values.{mates_le, mated_le}
use Rattle.egt_graph.proofs.laws.more_plies_do_no_harm.Goals as goal

pub returns : goal.returns
returns c = λ g i n m le. (mates_le g i n m le, mated_le g i n m le)
