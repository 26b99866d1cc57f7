use Rattle.std.proofs.Common.{Bool, ◌≡◌, ◌↔◌, sym, subst}
use Rattle.egt_blocks.specs.Prelude.{bit_at, IsBeside, IsBesideWhere}
use Rattle.egt_blocks.proofs.LeapRaising.{others_lack}
use Rattle.egt_blocks.proofs.advance_blocks.squares_where.Goals as goal

pub returns-else-beside : goal.returns-else-beside
returns-else-beside c = λ t t_in.
    let bit = bit_at c.difference.result.bits t in
    subst (λ (b : Bool). (bit ≡ 1) ↔ IsBesideWhere b c.args.square t) (sym c.if-beside.false) (others_lack c.squares_beside-here.result.bits bit t (IsBeside c.args.square t) t_in (c.squares_beside-here.ensures t) (c.difference.ensures.squares t))
