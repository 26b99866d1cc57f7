use Rattle.std.proofs.Common.{◌≡◌, ℕ, ◌≤◌, sym, ◌∙◌, subst, arith}
use Rattle.egt_moves.proofs.Choosing.{officer_place, Chosen, Chosen-more, Chosen-all, plain_choice}
use Rattle.egt_moves.proofs.MoveOrder.{IsInOrder-push}
use Rattle.egt_moves.proofs.listing.push_choices.Goals as goal

pub loop-kind-preserved : goal.loop-kind-preserved
loop-kind-preserved c =
    rw c.push.ensures.items (Chosen-more c.args.from c.args.to c.args.moves.now.items c.loop-kind.moves.items c.loop-kind.kind-index _ (officer_place c.loop-kind.kind-index _ c.loop-kind-test.true) c.requires.before c.loop-kind.invariant)

between : (n : ℕ) → 4 ≤ n → n ≤ 4 → n ≡ 4
between n low high = omega arith

pub returns-after-loop-kind-clause-choices : goal.returns-after-loop-kind-clause-choices
returns-after-loop-kind-clause-choices c =
    rw (sym c.promotes.ensures ∙ c.if-promotes.true)
    (Chosen-all c.args.from c.args.to c.args.moves.now.items c.loop-kind.moves.items (subst (Chosen c.args.from c.args.to c.args.moves.now.items c.loop-kind.moves.items) (between c.loop-kind.kind-index c.loop-kind-test.false c.loop-kind.auto.kind-index-end) c.loop-kind.invariant))

pub returns-else-promotes-clause-ordered : goal.returns-else-promotes-clause-ordered
returns-else-promotes-clause-ordered c = rw c.push-else-promotes.ensures.items (IsInOrder-push c.args.moves.now.items _ c.requires.ordered (λ m there. omega (arith, c.requires.before m there)))

pub returns-else-promotes-clause-choices : goal.returns-else-promotes-clause-choices
returns-else-promotes-clause-choices c =
    rw (sym c.promotes.ensures ∙ c.if-promotes.false, c.push-else-promotes.ensures.items) (plain_choice c.args.from c.args.to c.args.moves.now.items)
