use Rattle.std.specs.Prelude.{◌≡◌, ℕ, refl}
use Rattle.egt_board.specs.Prelude.{bit_at, bit_at-lt, AttacksFrom}
use Rattle.egt_board.proofs.Attacks.{attacked_as, seen_without}
use Rattle.egt_board.proofs.Sheltering.{any_of_four}
use Rattle.egt_board.proofs.board.Board.danger_without.Goals as goal

pub returns : goal.returns
returns c = λ t t_in.
    let a = c.self.inside in
    let Free : ℕ → Type 0 = λ u. bit_at c.without-occupied.result.bits u ≡ 0 in
    let any = any_of_four (AttacksFrom Free c.args.side t a.first) (AttacksFrom Free c.args.side t a.second) (AttacksFrom Free c.args.side t a.third) (AttacksFrom Free c.args.side t a.fourth) _ _ _ _ _
    (bit_at-lt c.attacked_by-first.result.bits t) (bit_at-lt c.attacked_by-second.result.bits t) (bit_at-lt c.attacked_by-third.result.bits t) (bit_at-lt c.attacked_by-fourth.result.bits t)
    (rw (c.union-3.ensures.squares t, c.union.ensures.squares t, c.union-2.ensures.squares t) refl)
    (c.attacked_by-first.ensures t t_in) (c.attacked_by-second.ensures t t_in) (c.attacked_by-third.ensures t t_in) (c.attacked_by-fourth.ensures t t_in) in
    let seen = seen_without c.args.self.now c.args.side c.args.all.bits c.without-occupied.result.bits c.args.lifted c.requires.lifted c.requires.all c.without-occupied.ensures.same c.without-occupied.ensures.others in
    let all = attacked_as a c.args.self.now _ c.without-occupied.result.bits c.args.side t c.self.invariant c.self.view_is seen in
    (λ one. all.0 (any.0 one), λ attacked. any.1 (all.1 attacked))
