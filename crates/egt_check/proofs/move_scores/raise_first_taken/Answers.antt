use Rattle.std.proofs.Common.{◌≢◌, ◌∙◌, arith, inl, inr, subst, sym}
use Rattle.egt_check.specs.Prelude.{false≢true, other_side, ShelfMen, at, IsRaised, AreLeftCodes, men_swapped}
use Rattle.egt_check.specs.Prelude.{column_score, raised_by_none}
use Rattle.egt_check.proofs.move_scores.raise_first_taken.Goals as goal

pub returns-then-not-is_of : goal.returns-then-not-is_of
returns-then-not-is_of c = λ told a b a_in b_in.
    let children = c.args.children.now in
    let men = c.args.men.now in
    let side = c.args.side in
    let own : men.first.side ≢ other_side side = λ foe. false≢true (sym c.if-not-is_of.true ∙ c.is_of.ensures.1 (foe ∙ sym c.other.ensures)) in
    let none = raised_by_none 0 (AreLeftCodes children.last.now.class children.last_flips (men_swapped men) side b a) (column_score children.last.now c.args.column) (λ code h. elim h.1 [ inl king ↦ own king.0 | inr man ↦ own man.1 ]) in
    (0, none, omega arith)

pub returns : goal.returns
returns c = λ told a b a_in b_in.
    let children = c.args.children.now in
    let taken = at c.taken_block.new.out b a in (
      taken,
      subst (λ (men : ShelfMen). IsRaised 0 (AreLeftCodes children.last.now.class children.last_flips men c.args.side b a) (column_score children.last.now c.args.column) taken) c.men_swapped.ensures
          (c.taken_block.ensures c.if-not-taken_block.false b a b_in a_in),
      c.raise_transposed.ensures a b a_in b_in,
    )
