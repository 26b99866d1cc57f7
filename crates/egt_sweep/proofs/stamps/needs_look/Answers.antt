use Rattle.std.proofs.Common.{◌∙◌, arith, sym, ap, subst, inl, inr}
use Rattle.egt_sweep.specs.FillPrelude.{cases_eq, Side, ShelfMen, with_king, TurnsTo}
use Rattle.egt_sweep.proofs.stamps.needs_look.Goals as goal

pub loop-to-init : goal.loop-to-init
loop-to-init c = λ k beside gone.
    let has = (c.beside_king-rest.ensures k beside.0).1 beside in
    absurd (omega (arith, has, gone))

pub loop-to-preserved : goal.loop-to-preserved
loop-to-preserved c = λ k beside gone w b s to. elim (cases_eq k c.in-Some.to) [
  | inl same ↦
      c.turned_since-in-Some.ensures c.if-turned_since-2.false w b s
      (subst (λ (m : ShelfMen). TurnsTo c.args.class m.white m.black c.other-other.result w b s) (ap (with_king c.args.men.now c.args.side) same ∙ sym c.with_king-stepped.ensures)
      (subst (λ (r : Side). TurnsTo c.args.class (with_king c.args.men.now c.args.side k).white (with_king c.args.men.now c.args.side k).black r w b s) (sym c.other-other.ensures) to))
  | inr other ↦ c.loop-to.invariant k beside (sym (c.in-Some.ensures.others k other) ∙ gone) w b s to
]

pub returns : goal.returns
returns c = λ none. (
  (let some = c.if-looked-eq0.false in omega (arith, some)),
  λ w b s reads. elim reads [
    | inl here ↦ c.turned_since.ensures c.if-turned_since.false w b s (subst (λ (r : Side). TurnsTo c.args.class c.args.men.now.white c.args.men.now.black r w b s) (sym c.other-other.ensures) here)
    | inr stepped ↦ c.loop-to.invariant stepped.0 stepped.1 (c.in_default.ensures.empty stepped.0) w b s stepped.2
  ],
)
