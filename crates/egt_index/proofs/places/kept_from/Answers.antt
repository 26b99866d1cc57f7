use Rattle.std.proofs.Common.{◌≡◌, ◌↔◌, arith, sym, ◌∙◌, subst}
use Rattle.egt_index.specs.Prelude.{bit_at, common_steps, Reaches, IsKeptFrom, Man}
use Rattle.egt_index.proofs.AttackedBack.{kept_own}
use Rattle.egt_index.proofs.places.kept_from.Goals.{After-difference}
use Rattle.egt_index.proofs.places.kept_from.Goals as goal

-- the man is of that side
same : (c : After-difference) → c.args.man.side ≡ c.args.side
same c = grind (arith, common_steps)

pub returns : goal.returns
returns c = λ t t_in.
    subst (λ side. (bit_at c.difference.result.bits t ≡ 1) ↔ IsKeptFrom c.args.board.now t c.args.man c.args.to side) (same c)
    (kept_own c.args.board.now c.args.man t c.args.to c.reach_passes_over_its_end.ensures t_in (omega (arith, c.number-number.ensures.value, c.number-number.ensures.on_board))
    c.shelter-sheltered.result.bits c.reach_past-attacking.result.bits c.occupied-occupied.result.bits c.difference.result.bits
    (λ newcomer other. subst (λ side. (bit_at c.shelter-sheltered.result.bits t ≡ 1) ↔ IsKeptFrom c.args.board.now t newcomer c.args.to side) (sym (same c))
    (c.shelter-sheltered.ensures t newcomer t_in (λ e. other (e ∙ sym (same c)))))
    (subst (λ (m : Man). (bit_at c.reach_past-attacking.result.bits t ≡ 1) ↔ Reaches (λ u. bit_at c.occupied-occupied.result.bits u ≡ 0) m c.args.to t) c.facing.ensures (c.reach_past-attacking.ensures.reached t t_in))
    c.occupied-occupied.ensures.free (c.difference.ensures.squares t))
