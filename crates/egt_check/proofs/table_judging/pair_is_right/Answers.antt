use Rattle.std.proofs.Common.{◌≡◌, ◌↔◌, ◌+◌, ℕ, List, Option, sym, subst}
use Rattle.egt_check.specs.Prelude.{other_side, Side, Column, BlockKey, ShelfMen, with_kings, AreKept, AreFourMenTables}
use Rattle.egt_check.specs.Prelude.{AreTablesOf, column_of, four_in, tables_in, AreJudged, FourMenTables, Part, column_score}
use Rattle.egt_check.proofs.PromotionTables.{four_there, tables_of_there}
use Rattle.egt_check.proofs.table_judging.pair_is_right.Goals as goal

-- they are the tables of the men there
are_there : (part : Part) (four : FourMenTables) (men there : ShelfMen) (white black : ℕ) → there ≡ with_kings men white black → AreFourMenTables (column_of part) four men → AreFourMenTables (column_of part) four there
are_there part four men there white black is are = subst (λ (other : ShelfMen). AreFourMenTables (column_of part) four other) (sym is) (four_there men white black (column_of part) four are)

pub block_is_right-requires-clause-men : goal.block_is_right-requires-clause-men
block_is_right-requires-clause-men c = are_there c.args.moves.now.part c.args.moves.now.four.now c.args.moves.now.men.now c.with_kings-there.result c.in-Some.here.white c.in-Some.here.black c.with_kings-there.ensures c.requires.men

pub returns-clause-judged : goal.returns-clause-judged
returns-clause-judged c = λ told tables are.
    let part = c.args.moves.now.part in
    let t = c.args.moves.now.four.now.own in
    let side = c.args.moves.now.side in
    let upper = c.args.first + c.args.half in
    let there : AreTablesOf (tables_in part tables) (four_in part c.args.moves.now.four.now) c.with_kings-there.result =
    subst (λ (men : ShelfMen). AreTablesOf (tables_in part tables) (four_in part c.args.moves.now.four.now) men) (sym c.with_kings-there.ensures)
    (tables_of_there c.args.moves.now.men.now c.in-Some.here.white c.in-Some.here.black (tables_in part tables) (four_in part c.args.moves.now.four.now) are) in
    subst (λ (men : ShelfMen). AreJudged part tables t men c.args.first side × AreJudged part tables t men upper side) c.with_kings-there.ensures (c.block_is_right.ensures.judged told tables there)

-- what is kept tells of all squares of the kings
kept_there : (d : ℕ) (worth : Column → ℕ → ℕ) (men there : ShelfMen) (white black : ℕ) (side : Side) (keys : List (Option BlockKey)) (blocks : List (List (List ℕ))) → there ≡ with_kings men white black
    → AreKept d worth men side keys blocks ↔ AreKept d worth there side keys blocks
kept_there d worth men there white black side keys blocks is = (
  (λ kept. let at_home : AreKept d worth (with_kings men white black) side keys blocks = record { some = kept.some; as_many = kept.as_many; each = kept.each; placed = kept.placed } in
      subst (λ (m : ShelfMen). AreKept d worth m side keys blocks) (sym is) at_home),
  (λ kept. let at_home : AreKept d worth (with_kings men white black) side keys blocks = subst (λ (m : ShelfMen). AreKept d worth m side keys blocks) is kept in
      record { some = at_home.some; as_many = at_home.as_many; each = at_home.each; placed = at_home.placed }),
)

pub block_is_right-requires-clause-kept : goal.block_is_right-requires-clause-kept
block_is_right-requires-clause-kept c =
    (kept_there c.args.moves.now.four.now.own.class (column_score c.args.moves.now.four.now.own) c.args.moves.now.men.now c.with_kings-there.result c.in-Some.here.white c.in-Some.here.black (other_side c.args.moves.now.side) c.args.keys.now c.args.blocks.now c.with_kings-there.ensures).0 c.requires.kept

pub returns-clause-kept : goal.returns-clause-kept
returns-clause-kept c = λ told.
    (kept_there c.args.moves.now.four.now.own.class (column_score c.args.moves.now.four.now.own) c.args.moves.now.men.now c.with_kings-there.result c.in-Some.here.white c.in-Some.here.black (other_side c.args.moves.now.side) c.block_is_right.new.keys c.block_is_right.new.blocks c.with_kings-there.ensures).1 (c.block_is_right.ensures.kept told)
