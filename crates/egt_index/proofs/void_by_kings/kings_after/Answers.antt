use Rattle.std.proofs.Common.{refl}
use Rattle.egt_index.proofs.void_by_kings.kings_after.Goals as goal

pub returns : goal.returns
returns c = rw (c.pair.ensures, c.turned_square.ensures, c.turned_square-2.ensures) refl
