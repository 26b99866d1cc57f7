use Rattle.egt_graph.proofs.Values.{never_both_ever}
use Rattle.egt_graph.proofs.Ranking.{one_value}
use Rattle.egt_graph.proofs.laws.each_node_has_one_value.Goals as goal

pub returns : goal.returns
returns c = λ g law i node. (λ n m. never_both_ever g law n m i node, one_value g law i node)
