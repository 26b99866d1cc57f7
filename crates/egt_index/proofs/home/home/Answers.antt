use Rattle.std.proofs.Common.{None, Some, inl, inr, refl, arith}
use Rattle.egt_index.proofs.ComesHome.{home_told}
use Rattle.egt_index.proofs.home.home.Goals as goal

pub entries-first-requires : goal.entries-first-requires
entries-first-requires c = grind (arith, c.row.ensures.on_board, c.row.ensures.is)

pub returns-then-first-second : goal.returns-then-first-second
returns-then-first-second c =
    home_told c.args.pawns c.args.flips c.args.king c.row.result c.entries-first.result.0 c.entries-first.result.1 None c.row.ensures.on_board c.row.ensures.is c.entries-first.ensures.first c.entries-first.ensures.last
    (inl (c.if-first-second.true, refl))

pub returns-else-first-second : goal.returns-else-first-second
returns-else-first-second c =
    home_told c.args.pawns c.args.flips c.args.king c.row.result c.entries-first.result.0 c.entries-first.result.1 (Some c.entries-first.result.1) c.row.ensures.on_board c.row.ensures.is c.entries-first.ensures.first c.entries-first.ensures.last
    (inr refl)
