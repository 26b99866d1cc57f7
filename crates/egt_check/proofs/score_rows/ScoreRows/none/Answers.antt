use Rattle.std.proofs.Common.{◌∙◌, ◌<◌, ◌*◌, ◌/◌, List, ℕ, [], ap, subst, arith, slice_index, slice_index_or}
use Rattle.egt_check.specs.Prelude.{div-le_self, kind_less, scores_in}
use Rattle.egt_check.proofs.ScoreRowsRead.{no_score, no_scores, one_last, whole_class}
use Rattle.egt_check.proofs.score_rows.ScoreRows.none.Goals as goal

pub invariant_of-result : goal.invariant_of-result
invariant_of-result c =
    let men = c.in-Some.men in
    let is = c.in-Some.ensures.shelf in
    let digits = c.last_digits.ensures.is in
    let some = c.last_digits.ensures.some in
    let items = c.in_ok-rows.ensures.items_if_clones_equal (λ y e. e) in
    record {
      below = subst (λ n. n < 36) c.number-number.ensures.value c.number-number.ensures.below;
      men_of = λ other of. one_last c.args.class other men of is.men_of;
      two = (men, is.men_of);
      digits = is.len;
      some = omega (arith, some, digits);
      whole = whole_class c.args.class c.size.result c.last_digits.result c.size.ensures digits c.last_digits.ensures.whole;
      few = (let le = div-le_self c.size.result (2 * c.last_digits.result) in let fits = c.size.type_inv in omega (arith, le, fits));
      long = (let own = c.in_ok-rows.rows.ok.0 in let len = c.in_ok-rows.ensures.len in omega (arith, own, len));
      edges = λ pawn r s s_in edge. ap (λ (l : List (List ℕ)). slice_index (slice_index_or l r []) s) items ∙ no_score _ r s;
    }

pub returns-clause-none : goal.returns-clause-none
returns-clause-none c = λ code.
    let items = c.in_ok-rows.ensures.items_if_clones_equal (λ y e. e) in
    let shelves : ℕ = c.size.result / (2 * c.last_digits.result) in
    ap (λ (l : List (List ℕ)). slice_index (scores_in c.args.class (kind_less c.in-Some.men.last.kind) shelves l) code) items ∙ no_scores c.args.class (kind_less c.in-Some.men.last.kind) shelves _ code
