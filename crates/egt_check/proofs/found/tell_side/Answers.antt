use Rattle.std.proofs.Common.{◌≡◌, ◌∙◌, ◌+◌, ◌*◌, ◌<◌, ℕ, [], ◌∷◌, ap, arith, below_more, length, sym, subst, slice_index}
use Rattle.std.proofs.Common.{◌≤◌}
use Rattle.egt_check.specs.Prelude.{get_or_default, code_of, kind_digits, kind_less, number_in, square_in, TableValue}
use Rattle.egt_check.specs.Prelude.{size_of, told}
use Rattle.egt_check.proofs.FoundTold.{one_told, put_told}
use Rattle.egt_check.proofs.found.tell_side.Goals as goal

pub loop-digit-preserved : goal.loop-digit-preserved
loop-digit-preserved c =
    let start : TableValue = c.args.table.now in
    let column = c.args.column in
    let scores = c.args.scores.now.scores in
    let shelf = c.args.shelf in
    let side = c.args.side in
    let kind = c.args.men.now.last.kind in
    let cl : ℕ = start.class in
    let k : ℕ = c.loop-digit.digit in
    let below : k < kind_digits kind = (let test = c.loop-digit-test.true in let end = c.from-digit-end.ensures in let digits = c.digits_of.ensures in omega (arith, test, end, digits)) in
    let code_is : c.code_of.result ≡ code_of cl (number_in cl shelf side k) =
    c.code_of.ensures.is ∙ ap (λ n. code_of n (c.first_of-first.result + 2 * k)) c.class-class.ensures.class
    ∙ ap (code_of cl) (let first = c.first_of-first.ensures ∙ ap (λ n. number_in n shelf side 0) c.class-class.ensures.class in let e : c.first_of-first.result + 2 * k ≡ number_in cl shelf side k = omega (arith, first) in e) in
    let lane : c.from-from.result + k ≡ k + kind_less kind = (let from = c.from-from.ensures in let first = c.first_square.ensures in omega (arith, from, first)) in
    let s_in : k + kind_less kind < 64 = square_in kind k below in
    let inside : c.from-from.result + k < length c.told_row-entries.result = (let wide = c.loop-digit.auto.entries.0 in omega (arith, lane, wide, s_in)) in
    let entry : c.index-entry.result.now ≡ told column (slice_index scores c.code_of.result) =
    c.index-entry.ensures ∙ get_or_default c.told_row-entries.result (c.from-from.result + k) c.index-entry.result.now 0 inside ∙ ap (slice_index c.told_row-entries.result) lane
    ∙ c.told_row-entries.ensures (k + kind_less kind) s_in
    ∙ ap (told column) (c.row-row.ensures.digits k below ∙ ap (λ n. slice_index scores (code_of n (number_in n shelf side k))) c.requires.class ∙ ap (slice_index scores) (sym code_is)) in
    let put = c.put.ensures in
    let more =
    put_told column scores start c.loop-digit.table c.put.new.self c.code_of.result (c.index-entry.result.now ∷ []) c.loop-digit.invariant.from (one_told column scores c.code_of.result c.index-entry.result.now entry)
    put.class put.there put.columns put.reach put.here put.others in
    record {
      from = more.0;
      told = below_more _ _
          (λ j less. more.1 _ (c.loop-digit.invariant.told j less))
          (more.2 _ 0 (let same : c.code_of.result + 0 ≡ c.code_of.result = omega arith in same ∙ code_is) (omega arith));
    }

pub put-requires-clause-within : goal.put-requires-clause-within
put-requires-clause-within c = let code = c.code_of.ensures.within in subst (λ n. c.code_of.result + 1 ≤ size_of n) (c.class-class.ensures.class ∙ sym c.loop-digit.invariant.from.class) (omega (arith, code))
