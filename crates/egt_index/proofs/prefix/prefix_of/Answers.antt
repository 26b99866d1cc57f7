use Rattle.std.proofs.Common.{refl, sym, subst}
use Rattle.egt_index.specs.Prelude.{IsPrefixOf, with_last}
use Rattle.egt_index.proofs.Exists.{index_settled, index_spelled}
use Rattle.egt_index.proofs.RowMen.{list_in_row, stand_in_row}
use Rattle.egt_index.proofs.prefix.prefix_of.Goals as goal

pub returns-in_err-prefix : goal.returns-in_err-prefix
returns-in_err-prefix c =
    subst (IsPrefixOf c.args.class c.args.number) (sym c.from_residual.ensures) (λ n last tells code same p ok index. c.in_err-prefix.ensures.none n last code index.image tells same index.spells)

pub returns-in-Beaten : goal.returns-in-Beaten
returns-in-Beaten c = λ n last tells code same p ok index.
    let stand = with_last c.in_ok-prefix.prefix.stand last in
    let men = c.in_ok-prefix.ensures.some.before.men n last tells in
    let settled = index_settled c.facts.ensures p index.image c.args.class code ok index index.spells in
    c.minimality_in_order.ensures.beaten c.in-Beaten.is stand ((refl, refl), c.first_of_two-first.ensures.is) index.image _ _ code (stand_in_row c.args.class n code stand index.image same men index.spells settled)
    (list_in_row c.args.class n code stand index.image same men index.spells) (index_spelled c.facts.ensures p index.image c.args.class code ok index index.spells)

-- no code is to be asked about alone, since each is an index
pub returns-in-Least : goal.returns-in-Least
returns-in-Least c = record {
  before = c.in_ok-prefix.ensures.some.before;
  apart = c.in_ok-prefix.ensures.some.apart;
  board = c.in_ok-prefix.ensures.some.board;
  room = c.in_ok-prefix.ensures.some.room;
  least = λ _ last in_order. c.minimality_in_order.ensures.least c.in-Least.is (with_last c.in_ok-prefix.prefix.stand last) ((refl, refl), c.first_of_two-first.ensures.is) in_order;
}
