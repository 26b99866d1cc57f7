-- Items whose entries are due, and shelves whose entries keep the rules.
use Rattle.std.specs.Prelude.{ℕ, ◌+◌}
use Rattle.egt_check.specs.Prelude.{TableValue, Tables, beside, table_at, with_kings, AreJudged}
use Rattle.egt_board.specs.declared.man.Side.{Side}
use Rattle.egt_sweep.specs.Settled.{AreAllDue}
use Rattle.egt_sweep.specs.declared.filling.Filling.{Filling}
use Rattle.egt_sweep.specs.declared.items.Item.{Item}

-- the entries with the kings on the item's squares and its side to move are due to the greatest scores of all moves
abbrev pub IsDueItem : Filling → TableValue → Item → Type 0
IsDueItem f t item = AreAllDue f.part t f.children (with_kings f.men item.white item.black) item.first f.half item.side

-- the table beside those of the library
abbrev pub tables_with : Filling → TableValue → Tables
tables_with f t = beside (table_at f.library.now) t

-- the entries of the shelves from this one on, and of those `half` further on, keep the rules with that side to move
abbrev pub AreAllJudged : Filling → TableValue → (first : ℕ) → Side → Type 0
AreAllJudged f t first side = AreJudged f.part (tables_with f t) t f.men first side × AreJudged f.part (tables_with f t) t f.men (first + f.half) side
