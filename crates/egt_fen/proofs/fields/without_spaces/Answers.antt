use Rattle.std.proofs.Common.{◌≢◌, List, ℕ, length, drop, get_or, sym, ap, ◌∙◌, subst, unwrap_or}
use Rattle.egt_fen.specs.Prelude.{is_other, runs_of}
use Rattle.egt_fen.proofs.Runs.{runs_of-spaces, other_first, place_or_len}
use Rattle.egt_fen.proofs.fields.without_spaces.Goals as goal

pub returns-clause-same : goal.returns-clause-same
returns-clause-same c =
    let place = c.unwrap_or.ensures ∙ ap (λ o. unwrap_or o (length c.args.text.now)) c.first_other.ensures ∙ place_or_len is_other c.args.text.now in
    ap runs_of c.split_at.ensures.back ∙ ap (λ n. runs_of (drop n c.args.text.now)) place ∙ runs_of-spaces c.args.text.now

pub returns-clause-begins : goal.returns-clause-begins
returns-clause-begins c =
    let place = c.unwrap_or.ensures ∙ ap (λ o. unwrap_or o (length c.args.text.now)) c.first_other.ensures ∙ place_or_len is_other c.args.text.now in
    subst (λ (xs : List ℕ). get_or xs 0 0 ≢ 32) (sym (c.split_at.ensures.back ∙ ap (λ n. drop n c.args.text.now) place)) (other_first c.args.text.now)
