use Rattle.std.proofs.Common.{◌≡◌, ◌∙◌, ◌<◌, ◌*◌, ◌/◌, ◌%◌, inl, inr, arith, ap, subst}
use Rattle.egt_check.specs.Prelude.{cases_lt, code_of, places, number_in, size_of, TellsVoid}
use Rattle.egt_check.proofs.ScoreRowsRead.{whole_class}
use Rattle.egt_check.proofs.ScoresDrawn.{of_code}
use Rattle.egt_check.proofs.voids.tells_voids.Goals as goal

pub loop-shelf-preserved : goal.loop-shelf-preserved
loop-shelf-preserved c = record {
  told = λ shelf less side k below. elim (cases_lt shelf c.loop-shelf.shelf) [
    | inl early ↦ c.loop-shelf.invariant.told shelf early side k below
    | inr from ↦
        let here : c.loop-shelf.shelf ≡ shelf = omega (arith, less, from) in
        let t = c.args.table.now in
        subst (λ s. TellsVoid t (code_of t.class (number_in t.class s side k))) here (c.tells_shelf.ensures c.if-not-tells_shelf.false side k below)
  ];
}

pub returns : goal.returns
returns c = λ _.
    let t = c.args.table.now in
    let class = c.class-class.ensures.class in
    let few = subst (λ n. n < 36) (c.number-number.ensures.value ∙ class) c.number-number.ensures.below in
    let laws = c.numbers_stand_for_codes.ensures in
    let digits = c.last_digits.ensures.is ∙ ap (λ k. places k) class in
    let size = c.size.ensures ∙ ap (λ k. size_of k) class in
    let whole = subst (λ k. size_of k % (2 * places k) ≡ 0) class c.last_digits.ensures.whole in
    let shelves = whole_class t.class c.size.result c.last_digits.result size digits whole in
    let some = c.last_digits.ensures.some in
    let end = c.loop-shelf-test.false in λ code below.
    of_code t.class (c.size.result / (2 * c.last_digits.result)) (TellsVoid t) (omega (arith, some, digits)) shelves
    (λ shelf lt side k k_in. c.loop-shelf.invariant.told shelf (omega (arith, lt, end)) side k k_in) code
    (laws.code t.class code few below) (laws.within t.class code few below)
