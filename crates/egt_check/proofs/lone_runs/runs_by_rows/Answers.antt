use Rattle.std.proofs.Common.{◌≡◌, ◌∙◌, ◌+◌, ◌*◌, ◌<◌, ℕ, arith, ap}
use Rattle.egt_check.specs.Prelude.{Side, White, Black, side_number, kind_digits, size_of, KeepsPart, beside}
use Rattle.egt_check.specs.Prelude.{table_at, div-add-mod'}
use Rattle.egt_check.proofs.LoneJudged.{run_keeps}
use Rattle.egt_check.proofs.lone_runs.runs_by_rows.Goals as goal

pub returns : goal.returns
returns c =
    let t = c.args.table.now in
    let man = c.in_ok-man.man in
    let Right = KeepsPart c.args.part (beside (table_at c.args.library.now) t) t in
    let len = 2 * c.from-len.result in
    let digits : c.from-len.result ≡ kind_digits man.kind = c.from-len.ensures ∙ c.digits_of.ensures in
    let size : c.size-codes.result ≡ size_of t.class = c.size-codes.ensures ∙ ap (λ k. size_of k) c.class-2.ensures.class in
    let whole = c.if-codes-len-ne0.false in
    let few = c.if-codes-len-gt2048.false in
    let split = div-add-mod' c.size-codes.result len in
    record {
      all = omega (arith, split, whole, size);
      few = omega (arith, few);
      told = λ _. (c.requires.there, c.tells_part.ensures c.if-not-tells_part.false);
      right = λ run i marked from under below. run_keeps Right (run * (2 * kind_digits man.kind)) (kind_digits man.kind) i
          (λ (side : Side). elim side as (λ s. (digit : ℕ) → digit < kind_digits man.kind → Right (run * (2 * kind_digits man.kind) + side_number s + 2 * digit)) [
            | White ↦ c.right_rows.ensures run marked.white
            | Black ↦ c.right_rows-2.ensures run marked.black
          ]) (let wide = ap (λ n. run * (2 * n)) digits in omega (arith, wide, from)) (let wide = ap (λ n. run * (2 * n)) digits in omega (arith, wide, digits, under));
    }
