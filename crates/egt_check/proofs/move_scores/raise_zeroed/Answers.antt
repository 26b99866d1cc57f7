use Rattle.std.proofs.Common.{◌≡◌, ◌≢◌, ℕ, get_or, List, [], max, sym, ap, ◌∙◌, inl, inr, arith}
use Rattle.egt_check.specs.Prelude.{get_or-set_other, length-set, cases_lt, get_or-set_at, at, zeroing_score}
use Rattle.egt_check.proofs.move_scores.raise_zeroed.Goals as goal

pub loop-i-preserved : goal.loop-i-preserved
loop-i-preserved c =
    let i = c.loop-i.i in
    let row = c.greater.result in
    let out = c.loop-i.out in
    let old = c.args.out.now in
    let by = c.args.mates.now in record {
      long = omega (arith, length-set {A = List ℕ});
      done = λ a b a_in b_in. elim (cases_lt a i) [
        | inl before ↦ let other : a ≢ i = omega arith in ap (λ r. get_or r b 0) (get_or-set_other out i a row [] other) ∙ c.loop-i.invariant.done a b before b_in
        | inr here ↦
            let e : a ≡ i = omega arith in
            ap (λ r. get_or r b 0) (get_or-set_at out i a row [] e (omega arith)) ∙ c.greater.ensures b b_in
            ∙ ap (λ v. max (at out i b) v) (c.zeroed.ensures b b_in)
            ∙ ap (λ v. max v (zeroing_score (at by i b))) (c.loop-i.invariant.left i b (omega arith)) ∙ ap (λ r. max (at old r b) (zeroing_score (at by r b))) (sym e)
      ];
      left = λ a b a_in. let other : a ≢ i = omega arith in ap (λ r. get_or r b 0) (get_or-set_other out i a row [] other) ∙ c.loop-i.invariant.left a b (omega arith);
    }
