use Rattle.egt_index.proofs.TurnedMen.{index_told, one_code, one_image, pawns_may, some_image}
use Rattle.egt_index.proofs.laws.codes_tell_turned_men.Goals as goal

pub returns : goal.returns
returns c = record {
  one = one_code;
  pawns = pawns_may;
  index = index_told c.facts.ensures;
  images = one_image c.facts.ensures;
  there = some_image c.facts.ensures;
}
