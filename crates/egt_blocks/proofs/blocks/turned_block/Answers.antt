use Rattle.std.proofs.Common.{◌≡◌, ◌≢◌, ℕ, Bool, List, [], get_or, get_or-set_other, arith, ap, sym, ◌∙◌, inl, inr}
use Rattle.std.proofs.Common.{subst}
use Rattle.egt_blocks.specs.Prelude.{length-set, cases_lt, get_or-set_at, bit_at, IsVoid, IsTurnedCodeWith, ShelfMen}
use Rattle.egt_blocks.specs.Prelude.{stand_on, AreShelvesOf, IsCodeAfter, IsRaisedAfter, turned_from}
use Rattle.egt_blocks.proofs.BlockRaising.{raised_by_zeros}
use Rattle.egt_blocks.proofs.blocks.turned_block.Goals as goal

pub loop-a-preserved : goal.loop-a-preserved
loop-a-preserved g c = (
  omega (arith, length-set {A = List ℕ}),
  λ a b a_in b_in here.
      let number = g.S.ShelfScores.number c.args.source.now in
      let worth = g.S.ShelfScores.worth c.args.source.now c.args.reading.now.column in
      let After = λ (k w : ℕ). IsRaisedAfter c.args.reading.now.targeted number worth c.args.turn (stand_on c.args.men.now k b) c.args.reading.now.side 0 w in
      let n = c.loop-a.a in
      let out = c.loop-a.out in
      let row = c.row_after.result in
      let on : c.at-on.result ≡ n = c.at-on.ensures in
      let from : c.from.result ≡ n = c.from.ensures in
      elim (cases_lt a n) [
        | inl less ↦
            let other : a ≢ c.from.result = λ e. let same = e ∙ from in omega (arith, same, less) in
            subst (After a) (ap (λ (r : List ℕ). get_or r b 0) (sym (get_or-set_other out c.from.result a row [] other))) (c.loop-a.invariant.1 a b less b_in here)
        | inr ge ↦
            let same : a ≡ n = omega arith in
            subst (After a) (ap (λ (r : List ℕ). get_or r b 0) (sym (get_or-set_at out c.from.result a row [] (same ∙ sym from) (omega (arith, from)))))
            (subst (λ k. After k (get_or row b 0)) (on ∙ sym same) (c.row_after.ensures b b_in (subst (λ k. bit_at c.args.rows.bits k ≡ 1) (same ∙ sym on) here)))
      ],
)

pub row_after-requires-clause-shelves : goal.row_after-requires-clause-shelves
row_after-requires-clause-shelves g c =
    subst (λ k. AreShelvesOf c.args.reading.now.targeted k (turned_from c.args.men.now c.at-on.result c.args.turn) c.in-Some.first) c.class-class.ensures.is
    (subst (λ (men : ShelfMen). AreShelvesOf c.args.reading.now.targeted c.class-class.result men c.in-Some.first) c.turned_from-there.ensures c.in-Some.ensures.shelves)

pub returns-then-are_void_after : goal.returns-then-are_void_after
returns-then-are_void_after g c = λ told a b a_in b_in _.
    let number = g.S.ShelfScores.number c.args.source.now in
    let worth = g.S.ShelfScores.worth c.args.source.now c.args.reading.now.column in
    let turn = c.args.turn in
    let side = c.args.reading.now.side in
    let stand = stand_on c.args.men.now a b in
    let void =
    subst (λ k. (targeted : Bool) (code : ℕ) → IsTurnedCodeWith targeted k turn code stand side → IsVoid k code) c.class-class.ensures.is
    (λ targeted code. c.are_void_after.ensures c.if-are_void_after.true targeted code a b side a_in b_in) in
    subst (IsRaisedAfter c.args.reading.now.targeted number worth turn stand side 0) (sym (c.nothing.ensures a b a_in b_in))
    (raised_by_zeros 0 (λ code. IsCodeAfter c.args.reading.now.targeted number turn code stand side) worth
    (λ code tells. c.requires.voids code (void c.args.reading.now.targeted code (record { below = c.requires.turn; keeps = c.requires.keeps; tells = tells }))))
