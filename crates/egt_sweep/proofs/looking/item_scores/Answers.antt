use Rattle.std.proofs.Common.{◌∙◌, false, true, sym, subst, ◌≡◌, rules}
use Rattle.egt_sweep.specs.FillPrelude.{ShelfMen, at, TableValue, Column, AreChildren, AreFourMenTables, IsOwnTable, column_of}
use Rattle.egt_sweep.specs.FillPrelude.{children_there, four_there, AreBlockScores}
use Rattle.egt_sweep.proofs.ScoresThrough.{scores_same}
use Rattle.egt_sweep.proofs.looking.item_scores.Goals.{After-part_scores}
use Rattle.egt_sweep.proofs.looking.item_scores.Goals as goal

pub part_scores-requires-clause-men : goal.part_scores-requires-clause-men
part_scores-requires-clause-men c =
    let f = c.args.f.now in
    let item = c.args.item.now in
    let four = c.beside_found-four.result in
    let own : IsOwnTable f.part f.class f.men four.own = subst (λ (t : TableValue). IsOwnTable f.part f.class f.men t) (sym c.beside_found-four.ensures.own) c.requires.table in
    subst (λ (m : ShelfMen). AreFourMenTables (column_of f.part) four m) (sym c.requires.men) (four_there f.men item.white item.black (column_of f.part) four (c.requires.filling.four four c.beside_found-four.ensures.children own).0)

pub passing_captures-requires : goal.passing_captures-requires
passing_captures-requires c =
    let f = c.args.f.now in
    let item = c.args.item.now in
    subst (λ (column : Column). AreChildren column f.children c.args.men.now) (sym c.column_of.ensures)
    (subst (λ (m : ShelfMen). AreChildren (column_of f.part) f.children m) (sym c.requires.men) (children_there f.men item.white item.black (column_of f.part) f.children c.requires.filling.children))

-- the scores without a target, by the table itself
plain_scores : (c : After-part_scores) → c.part_scores.result ≡ true
    → AreBlockScores c.args.f.now.part false c.args.table.now c.args.f.now.children c.args.men.now c.args.item.now.side c.part_scores.new.scores c.part_scores.new.zeroing
plain_scores c told a b a_in b_in next own same =
    scores_same c.args.f.now.part c.beside_found-four.result next (own ∙ sym c.beside_found-four.ensures.own) (same ∙ sym c.beside_found-four.ensures.children)
    false c.args.men.now c.args.item.now.side a b (at c.part_scores.new.scores a b) (at c.part_scores.new.zeroing a b) (c.part_scores.ensures.scores told a b a_in b_in)

pub returns-clause-scores : goal.returns-clause-scores
returns-clause-scores c = λ told. record {
  plain = plain_scores (goal.at.returns-clause-scores c).After-part_scores c.if-not-part_scores.false;
  targeted = λ some a b a_in b_in next own same.
      let four = c.beside_found-four.result in
      let scores : c.deref_mut-7.result.now ≡ c.part_scores.new.scores = first_of (cc, search rules) in
      let clocks : c.deref_mut-8.result.now ≡ c.part_scores.new.zeroing = first_of (cc, search rules) in
      scores_same c.args.f.now.part four next (own ∙ sym c.beside_found-four.ensures.own) (same ∙ sym c.beside_found-four.ensures.children) true c.args.men.now c.args.item.now.side a b (at c.raise_part_passing.new.scores a b) (at c.raise_part_passing.new.zeroing a b)
      (c.raise_part_passing.ensures a b a_in b_in (rw (scores, clocks) (c.part_scores.ensures.scores c.if-not-part_scores.false a b a_in b_in)));
}

pub returns-then-f-eq0-clause-scores : goal.returns-then-f-eq0-clause-scores
returns-then-f-eq0-clause-scores c = λ told. record {
  plain = plain_scores (goal.at.returns-then-f-eq0-clause-scores c).After-part_scores c.if-not-part_scores.false;
  targeted = λ some. absurd (some c.if-f-eq0.true);
}
