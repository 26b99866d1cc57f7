use Rattle.std.proofs.Common.{◌≡◌, sym, subst}
use Rattle.egt_blocks.specs.Prelude.{bit_at, king_of, Reaches}
use Rattle.egt_blocks.proofs.king_blocks.beside_king.Goals as goal

pub returns : goal.returns
returns c = λ k k_in.
    let reached = c.reach_past.ensures.reached k k_in in (
      (λ has. (k_in, subst (λ s. Reaches (λ u. bit_at 0 u ≡ 0) (king_of c.args.side) s k) c.king_of_men.ensures (reached.0 has))),
      (λ h. reached.1 (subst (λ s. Reaches (λ u. bit_at 0 u ≡ 0) (king_of c.args.side) s k) (sym c.king_of_men.ensures) h.1)),
    )
