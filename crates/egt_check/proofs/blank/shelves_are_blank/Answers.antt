use Rattle.std.proofs.Common.{◌≡◌, ◌+◌, ◌<◌, ℕ, ap, arith, inl, inr, subst, sym}
use Rattle.egt_check.specs.Prelude.{cases_lt, bit_at, Man, code_of, kind_digits, kind_less, IsShelfOf, number_in}
use Rattle.egt_check.specs.Prelude.{size_of, ShelfMen, AreShelvesOf, column_score, run_at}
use Rattle.egt_check.proofs.LaneRight.{blank_lane}
use Rattle.egt_check.proofs.Marks.{mark, none_marked}
use Rattle.egt_check.proofs.blank.shelves_are_blank.Goals as goal

pub marks_of-requires : goal.marks_of-requires
marks_of-requires c =
    let men = c.args.men.now in
    let class = c.args.table.now.class in
    let are = subst (λ k. AreShelvesOf c.args.targeted k men c.args.first) c.class.ensures.class (c.begin_with.ensures c.if-not-begin_with.false) in
    let under = c.loop-digit-test.true in
    let many = c.digits_of-digit-end.ensures in
    let there = run_at c.args.targeted class c.args.first men are c.loop-digit.digit c.from.result c.at.result
    c.first_square-from.result (omega (arith, under, many)) c.from.ensures c.at.ensures c.first_square-from.ensures in record {
      there = c.requires.there;
      shelf = subst (λ (m : ShelfMen). IsShelfOf c.args.targeted class (c.args.first + c.from.result) m) (sym c.men_on-there.ensures) there.0;
      within = there.1;
    }

pub loop-digit-preserved : goal.loop-digit-preserved
loop-digit-preserved c = λ x y under y_in. elim (cases_lt x c.loop-digit.digit) [
  | inl before ↦ c.loop-digit.invariant x y before y_in
  | inr here ↦
      let t = c.args.table.now in
      let men = c.args.men.now in
      let side = c.args.side in
      let at_digit = c.from.ensures in
      let test = c.loop-digit-test.true in
      let many = c.digits_of-digit-end.ensures in
      let shelf : c.args.first + c.from.result ≡ c.args.first + x = omega (arith, at_digit, under, here) in
      let are = subst (λ k. AreShelvesOf c.args.targeted k men c.args.first) c.class.ensures.class (c.begin_with.ensures c.if-not-begin_with.false) in
      let is = are x (omega (arith, under, test, many)) in
      let coded : (m : ℕ) → m < size_of t.class → code_of t.class m < size_of t.class = λ m m_in. c.numbers_stand_for_codes.ensures.coded t.class m c.class.ensures.table.class_in m_in in
      let marked = subst (λ (m : Man). (k : ℕ) → k < kind_digits m.kind → bit_at c.marks_of.result k ≡ mark (column_score t c.args.column (code_of t.class (number_in t.class (c.args.first + c.from.result) side k)))) (ap (λ (m : ShelfMen). m.last) c.men_on-there.ensures) c.marks_of.ensures in
      let there = subst (λ n. bit_at c.marks_of.result y ≡ mark (column_score t c.args.column (code_of t.class (number_in t.class n side y)))) shelf (marked y y_in) in
      blank_lane c.args.targeted t men (x + kind_less men.first.kind) (c.args.first + x) side is.0 is.1 coded y y_in c.args.column (none_marked c.marks_of.result y c.if-marks_of-ne0.false (column_score t c.args.column (code_of t.class (number_in t.class (c.args.first + x) side y))) there)
]
