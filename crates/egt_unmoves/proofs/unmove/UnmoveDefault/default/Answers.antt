use Rattle.std.proofs.Common.{sym, subst}
use Rattle.egt_unmoves.specs.Prelude.{corners, IsKingOn, White, Black}
use Rattle.egt_unmoves.proofs.TwoKings.{corners-admissible, white_there, black_there}
use Rattle.egt_unmoves.proofs.unmove.UnmoveDefault.default.Goals as goal

pub with_kings-requires-clause-admissible : goal.with_kings-requires-clause-admissible
with_kings-requires-clause-admissible c = rw c.of_kings_in_corners-board.ensures corners-admissible

pub with_kings-requires-clause-white : goal.with_kings-requires-clause-white
with_kings-requires-clause-white c = rw c.of_kings_in_corners-board.ensures (subst (IsKingOn corners White) (sym c.at-white_king.ensures) white_there)

pub with_kings-requires-clause-black : goal.with_kings-requires-clause-black
with_kings-requires-clause-black c = rw c.of_kings_in_corners-board.ensures (subst (IsKingOn corners Black) (sym c.at-black_king.ensures) black_there)
