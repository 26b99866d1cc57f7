use Rattle.egt_graph.proofs.Histories.{each_round_is_of_its_rank}
use Rattle.egt_graph.proofs.laws.each_round_is_of_its_rank.Goals as goal

pub returns : goal.returns
returns c = each_round_is_of_its_rank
