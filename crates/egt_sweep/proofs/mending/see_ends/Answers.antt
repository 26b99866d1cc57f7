use Rattle.std.proofs.Common.{◌≡◌, ◌∙◌, ◌+◌, arith, sym, ap, inl, inr, subst}
use Rattle.egt_sweep.specs.FillPrelude.{bit_at, cases_eq, code_of, kind_less, number_in, IsRightEndOf}
use Rattle.egt_sweep.proofs.PutEntries.{end_stays}
use Rattle.egt_sweep.proofs.ShelfLanes.{code_at, first_here, more, one_digit}
use Rattle.egt_sweep.proofs.mending.see_ends.Goals as goal

pub loop-square-preserved : goal.loop-square-preserved
loop-square-preserved c = (
  more c.args.part c.class-class.result c.first_of-first.result c.in-Some-digit_on.digit c.in-Some.square c.args.shelf.now c.args.ends c.code_of-code.result c.args.table.now c.loop-square.table c.see_end.new.table
      c.in-Some-digit_on.ensures.below c.in-Some-digit_on.ensures.is (c.loop-square.invariant.1 c.in-Some.square c.in-Some.ensures.had) c.class-class.ensures.class (first_here c.class-class.result c.args.table.now.class c.first_of-first.result c.args.shelf.now.number c.args.shelf.now.side c.class-class.ensures.class c.first_of-first.ensures) c.code_of-code.ensures.is c.loop-square.invariant.0 c.see_end.ensures.mended,
  λ t has. elim (cases_eq t c.in-Some.square) [
    | inl same ↦ absurd (let none = ap (bit_at c.pop_first.new.self.bits) same ∙ c.in-Some.ensures.gone in omega (arith, has, none))
    | inr other ↦ c.loop-square.invariant.1 t (sym (c.in-Some.ensures.others t other) ∙ has)
  ],
  λ digit below has gone.
      let cl = c.args.table.now.class in
      let shelf = c.args.shelf.now in
      let here = c.in-Some-digit_on.digit in
      let part = c.args.part in
      let less = kind_less shelf.men.last.kind in
      let code = code_of cl (number_in cl shelf.number shelf.side digit) in
      let code_is = code_at cl c.class-class.result c.first_of-first.result here shelf.number shelf.side c.code_of-code.result c.class-class.ensures.class (first_here c.class-class.result c.args.table.now.class c.first_of-first.result c.args.shelf.now.number c.args.shelf.now.side c.class-class.ensures.class c.first_of-first.ensures) c.code_of-code.ensures.is in
      elim (cases_eq (digit + less) c.in-Some.square) [
        | inl same ↦
            let is = c.in-Some-digit_on.ensures.is in
            let digit_is : here ≡ digit = omega (arith, same, is) in
            subst (λ k. IsRightEndOf part c.see_end.new.table k) (code_is ∙ ap (λ d. code_of cl (number_in cl shelf.number shelf.side d)) digit_is) (c.see_end.ensures.right c.if-not-see_end.false)
        | inr other ↦
            end_stays part c.loop-square.table c.see_end.new.table (λ n. n ≡ c.code_of-code.result) code c.see_end.ensures.mended
            (λ e. other (let digit_is = one_digit cl shelf c.requires.shelf (λ n n_in. c.numbers_stand_for_codes.ensures.number cl n c.class-class.ensures.table.class_in n_in) digit here below c.in-Some-digit_on.ensures.below (e ∙ code_is) in let is = c.in-Some-digit_on.ensures.is in let same : digit + less ≡ c.in-Some.square = omega (arith, digit_is, is) in same))
            (c.loop-square.invariant.2 digit below has (sym (c.in-Some.ensures.others (digit + less) other) ∙ gone))
      ],
)
