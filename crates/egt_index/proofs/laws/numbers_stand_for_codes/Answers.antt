use Rattle.egt_index.proofs.Exists.{index_settled}
use Rattle.egt_index.proofs.NumbersOfCodes.{code_back, code_below, number_back, number_below, number_within}
use Rattle.egt_index.proofs.ShelfCodes.{halves}
use Rattle.egt_index.proofs.laws.numbers_stand_for_codes.Goals as goal

pub returns : goal.returns
returns c = record {
  code = λ k code k_in. code_back k code;
  within = λ k code k_in. number_within k code;
  below = λ k n k_in. number_below k n;
  coded = λ k n k_in. code_below k n;
  number = λ k n k_in. number_back k n;
  halves = λ k shelf men is k_in. halves k shelf men is;
  indexes_are_settled = λ k i p q. index_settled c.facts.ensures p q k i;
}
