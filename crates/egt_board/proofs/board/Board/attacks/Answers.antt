use Rattle.std.proofs.Common.{refl, sym, ◌∙◌, inl, inr}
use Rattle.egt_board.specs.Prelude.{false≢true}
use Rattle.egt_board.proofs.Attacks.{attacked_by}
use Rattle.egt_board.proofs.board.Board.attacks.Goals as goal

pub returns-then-attacks_from : goal.returns-then-attacks_from
returns-then-attacks_from c = (λ _. (attacked_by c.self.inside c.args.self.now c.occupied-occupied.result.bits c.args.side c.args.square c.self.invariant c.self.view_is c.occupied-occupied.ensures.free).0 (inl (c.attacks_from.ensures.0 c.if-attacks_from.true)), λ _. refl)

pub returns-then-attacks_from-2 : goal.returns-then-attacks_from-2
returns-then-attacks_from-2 c = (λ _. (attacked_by c.self.inside c.args.self.now c.occupied-occupied.result.bits c.args.side c.args.square c.self.invariant c.self.view_is c.occupied-occupied.ensures.free).0 (inr (inl (c.attacks_from-2.ensures.0 c.if-attacks_from-2.true))), λ _. refl)

pub returns-then-attacks_from-3 : goal.returns-then-attacks_from-3
returns-then-attacks_from-3 c = (λ _. (attacked_by c.self.inside c.args.self.now c.occupied-occupied.result.bits c.args.side c.args.square c.self.invariant c.self.view_is c.occupied-occupied.ensures.free).0 (inr (inr (inl (c.attacks_from-3.ensures.0 c.if-attacks_from-3.true)))), λ _. refl)

pub returns : goal.returns
returns c = (
  λ found. (attacked_by c.self.inside c.args.self.now c.occupied-occupied.result.bits c.args.side c.args.square c.self.invariant c.self.view_is c.occupied-occupied.ensures.free).0 (inr (inr (inr (c.attacks_from-4.ensures.0 found)))),
  λ attacked. elim ((attacked_by c.self.inside c.args.self.now c.occupied-occupied.result.bits c.args.side c.args.square c.self.invariant c.self.view_is c.occupied-occupied.ensures.free).1 attacked) [
    | inl h ↦ absurd (false≢true (sym c.if-attacks_from.false ∙ c.attacks_from.ensures.1 h))
    | inr rest ↦ elim rest [
      | inl h ↦ absurd (false≢true (sym c.if-attacks_from-2.false ∙ c.attacks_from-2.ensures.1 h))
      | inr others ↦ elim others [
        | inl h ↦ absurd (false≢true (sym c.if-attacks_from-3.false ∙ c.attacks_from-3.ensures.1 h))
        | inr last ↦ c.attacks_from-4.ensures.1 last
      ]
    ]
  ],
)
