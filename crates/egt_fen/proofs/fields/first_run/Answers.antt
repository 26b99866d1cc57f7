use Rattle.std.proofs.Common.{◌<◌, ◌∷◌, length, take, drop, arith, sym, ap, ◌∙◌, unwrap_or}
use Rattle.egt_fen.specs.Prelude.{eqb-true, eqb-false, nil_from_length, is_space, runs_of}
use Rattle.egt_fen.proofs.Runs.{runs_of-nil, runs_of-run, place_or_len}
use Rattle.egt_fen.proofs.fields.first_run.Goals as goal

pub returns-then-is_empty-clause-none : goal.returns-then-is_empty-clause-none
returns-then-is_empty-clause-none c = grind (arith, runs_of, nil_from_length, eqb-true, runs_of-nil, c.without_spaces-run.ensures.same, c.is_empty.ensures, c.if-is_empty.true)

pub returns-clause-some : goal.returns-clause-some
returns-clause-some c =
    let run = c.without_spaces-run.result.now in
    let some : 0 < length run = let ne = eqb-false (length run) 0 (sym c.is_empty.ensures ∙ c.if-is_empty.false) in omega arith in
    let place = c.unwrap_or.ensures ∙ ap (λ o. unwrap_or o (length run)) c.first_space.ensures ∙ place_or_len is_space run in
    sym c.without_spaces-run.ensures.same
    ∙ runs_of-run run some c.without_spaces-run.ensures.begins
    ∙ ap (λ n. take n run ∷ runs_of (drop n run)) (sym place)
    ∙ ap (λ xs. xs ∷ runs_of (drop c.unwrap_or.result run)) (sym c.split_at.ensures.front)
    ∙ ap (λ ys. c.split_at.result.0.now ∷ runs_of ys) (sym c.split_at.ensures.back)
