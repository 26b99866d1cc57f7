use Rattle.std.proofs.Common.{◌≡◌, ◌≢◌, ℕ, ◌+◌, ◌<◌, ap, arith, inl, inr, subst, sym}
use Rattle.egt_check.specs.Prelude.{cases_lt, code_of, kind_digits, kind_less, IsShelfOf, number_in, size_of, ShelfMen}
use Rattle.egt_check.specs.Prelude.{Man, at, AreShelvesOf, column_of, IsRightAtOf, column_score, run_at}
use Rattle.egt_check.proofs.LaneRight.{right_lane}
use Rattle.egt_check.proofs.block_judging.shelves_are_right.Goals as goal

pub row_is_right-requires : goal.row_is_right-requires
row_is_right-requires c =
    let men = c.args.shelves.now.men in
    let class = c.args.table.now.class in
    let are = subst (λ k. AreShelvesOf c.args.shelves.now.targeted k men c.args.shelves.now.number) c.class.ensures.class (c.begin_with.ensures c.if-not-begin_with.false) in
    let under = c.loop-digit-test.true in
    let many = c.digits_of-digit-end.ensures in
    let there = run_at c.args.shelves.now.targeted class c.args.shelves.now.number men are c.loop-digit.digit c.from.result c.at.result
    c.first_square-from.result (omega (arith, under, many)) c.from.ensures c.at.ensures c.first_square-from.ensures in record {
      there = c.requires.there;
      shelf = subst (λ (m : ShelfMen). IsShelfOf c.args.shelves.now.targeted class (c.args.shelves.now.number + c.from.result) m) (sym c.men_on.ensures) there.0;
      within = there.1;
    }

pub loop-digit-preserved : goal.loop-digit-preserved
loop-digit-preserved c = λ x y under y_in. elim (cases_lt x c.loop-digit.digit) [
  | inl before ↦ c.loop-digit.invariant x y before y_in
  | inr here ↦
      let t = c.args.table.now in
      let men = c.args.shelves.now.men in
      let part = c.args.part in
      let side = c.args.shelves.now.side in
      let less = kind_less men.first.kind in
      let b = y + kind_less men.last.kind in
      let digit = c.loop-digit.digit in
      let last = ap (λ (m : ShelfMen). m.last) c.men_on.ensures in
      let from = c.first_square-from.ensures in
      let at_digit = c.from.ensures in
      let test = c.loop-digit-test.true in
      let many = c.digits_of-digit-end.ensures in
      let row : c.first_square-from.result + digit ≡ x + less = omega (arith, from, under, here) in
      let shelf : c.args.shelves.now.number + c.from.result ≡ c.args.shelves.now.number + x = omega (arith, at_digit, under, here) in
      let are = subst (λ k. AreShelvesOf c.args.shelves.now.targeted k men c.args.shelves.now.number) c.class.ensures.class (c.begin_with.ensures c.if-not-begin_with.false) in
      let is = are x (omega (arith, under, test, many)) in
      let coded : (m : ℕ) → m < size_of t.class → code_of t.class m < size_of t.class = λ m m_in. c.numbers_stand_for_codes.ensures.coded t.class m c.class.ensures.table.class_in m_in in
      let Right : (shelf row k lane : ℕ) → Type 0 = λ shelf row k lane. column_score t (column_of part) (code_of t.class (number_in t.class shelf side k)) ≢ 0
      → IsRightAtOf part t (code_of t.class (number_in t.class shelf side k)) (at c.args.scores.now row lane) (at c.args.zeroing.now row lane) in
      let right = subst (λ (m : Man). (k : ℕ) → k < kind_digits m.kind → Right (c.args.shelves.now.number + c.from.result) (c.first_square-from.result + digit) k (k + kind_less m.kind)) last (c.row_is_right.ensures c.if-not-row_is_right.false) y y_in in
      right_lane c.args.shelves.now.targeted t men (x + less) (c.args.shelves.now.number + x) side is.0 is.1 coded y y_in part (at c.args.scores.now (x + less) b) (at c.args.zeroing.now (x + less) b)
      (subst (λ r. Right (c.args.shelves.now.number + x) r y b) row (subst (λ n. Right n (c.first_square-from.result + digit) y b) shelf right))
]
