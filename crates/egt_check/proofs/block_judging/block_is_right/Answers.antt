use Rattle.std.proofs.Common.{◌+◌, true, false, subst, arith, ◌⊎◌, ℕ}
use Rattle.egt_check.specs.Prelude.{code_of, kind_less, number_in, at, TableValue, AreJudged, IsRightLane, square_in}
use Rattle.egt_check.specs.Prelude.{Setup, Spells, IsIndex, IsVoid, Column, AreBlank}
use Rattle.egt_check.proofs.BlankKept.{blank_kept}
use Rattle.egt_check.proofs.block_judging.block_is_right.Goals as goal

pub returns-then-side_is_blank-clause-judged : goal.returns-then-side_is_blank-clause-judged
returns-then-side_is_blank-clause-judged c = λ _ tables are.
    let part = c.args.moves.now.part in
    let t = c.args.moves.now.four.now.own in
    let men = c.args.moves.now.men.now in
    let or_void : (i : ℕ) → ((p : Setup) × Spells t.class i p × IsIndex t.class p i) ⊎ IsVoid t.class i = λ i. c.a_code_is_an_index_or_void.ensures t.class i are.is_table.class_in in
    let blank = subst (λ (column : Column). AreBlank t column men c.args.first c.args.moves.now.side × AreBlank t column men (c.args.first + c.args.half) c.args.moves.now.side) c.column_of-column.ensures (c.side_is_blank.ensures c.if-side_is_blank.true) in (
      λ x y x_in y_in. blank_kept part tables t are.is_table are.bytes or_void _ (blank.0 x y x_in y_in),
      λ x y x_in y_in. blank_kept part tables t are.is_table are.bytes or_void _ (blank.1 x y x_in y_in),
    )

pub returns-then-half-eq0-clause-judged : goal.returns-then-half-eq0-clause-judged
returns-then-half-eq0-clause-judged c = λ _ tables are.
    let four = c.args.moves.now.four.now in
    let men = c.args.moves.now.men.now in
    let part = c.args.moves.now.part in
    let side = c.args.moves.now.side in
    let lower : AreJudged part tables four.own men c.args.first side = λ x y x_in y_in.
    let a = x + kind_less men.first.kind in
    let b = y + kind_less men.last.kind in
    let scores = c.part_scores.ensures.scores c.if-not-part_scores.false a b (square_in men.first.kind x x_in) (square_in men.last.kind y y_in) in
    let lane = subst (λ (u : TableValue). IsRightLane part false u men side a b (code_of u.class (number_in u.class (c.args.first + x) side y)) (at c.part_scores.new.scores a b) (at c.part_scores.new.zeroing a b)) c.in-Some.ensures (c.shelves_are_right.ensures c.if-not-shelves_are_right.false x y x_in y_in) in
    c.entries_due_to_all_moves_are_right.ensures part tables four men side false a b (code_of four.own.class (number_in four.own.class (c.args.first + x) side y)) (at c.part_scores.new.scores a b) (at c.part_scores.new.zeroing a b)
    are c.requires.men.children.one c.requires.men.children.last lane scores in
    let none = c.if-half-eq0.true in
    (lower, subst (λ n. AreJudged part tables four.own men n side) (omega (arith, none)) lower)

pub returns-clause-judged : goal.returns-clause-judged
returns-clause-judged c = λ told tables are.
    let four = c.args.moves.now.four.now in
    let men = c.args.moves.now.men.now in
    let part = c.args.moves.now.part in
    let side = c.args.moves.now.side in
    let scores = c.part_scores.ensures.scores c.if-not-part_scores.false in (
      λ x y x_in y_in.
          let a = x + kind_less men.first.kind in
          let b = y + kind_less men.last.kind in
          let lane = subst (λ (u : TableValue). IsRightLane part false u men side a b (code_of u.class (number_in u.class (c.args.first + x) side y)) (at c.part_scores.new.scores a b) (at c.part_scores.new.zeroing a b)) c.in-Some.ensures (c.shelves_are_right.ensures c.if-not-shelves_are_right.false x y x_in y_in) in
          c.entries_due_to_all_moves_are_right.ensures part tables four men side false a b (code_of four.own.class (number_in four.own.class (c.args.first + x) side y)) (at c.part_scores.new.scores a b) (at c.part_scores.new.zeroing a b)
          are c.requires.men.children.one c.requires.men.children.last lane (scores a b (square_in men.first.kind x x_in) (square_in men.last.kind y y_in)),
      λ x y x_in y_in.
          let a = x + kind_less men.first.kind in
          let b = y + kind_less men.last.kind in
          let a_in = square_in men.first.kind x x_in in
          let b_in = square_in men.last.kind y y_in in
          let lane = subst (λ (u : TableValue). IsRightLane part true u men side a b (code_of u.class (number_in u.class (c.args.first + c.args.half + x) side y)) (at c.raise_part_passing.new.scores a b) (at c.raise_part_passing.new.zeroing a b)) c.in-Some.ensures (c.shelves_are_right-2.ensures told x y x_in y_in) in
          c.entries_due_to_all_moves_are_right.ensures part tables four men side true a b (code_of four.own.class (number_in four.own.class (c.args.first + c.args.half + x) side y)) (at c.raise_part_passing.new.scores a b) (at c.raise_part_passing.new.zeroing a b)
          are c.requires.men.children.one c.requires.men.children.last lane (c.raise_part_passing.ensures a b a_in b_in (scores a b a_in b_in)),
    )
