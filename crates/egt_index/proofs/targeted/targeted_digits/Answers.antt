use Rattle.std.proofs.Common.{◌-◌, arith, ◌∙◌, ap, sym}
use Rattle.egt_index.specs.Prelude.{lt-ltb}
use Rattle.egt_index.proofs.TargetsMade.{both_made, none_made}
use Rattle.egt_index.proofs.targeted.targeted_digits.Goals as goal

pub returns-then-rank-taking_rank : goal.returns-then-rank-taking_rank
returns-then-rank-taking_rank c =
    none_made c.args.class c.args.prefix.now c.args.man (omega (arith, c.number-number.ensures.below, c.number-number.ensures.value)) c.requires.targets c.requires.before c.requires.first.0 c.args.mover c.args.on c.requires.first.1
    (λ same. c.if-rank-taking_rank.true (c.rank.ensures.value ∙ same ∙ sym c.taking_rank.ensures))

pub returns : goal.returns
returns c =
    both_made c.args.class c.args.prefix.now c.args.man (omega (arith, c.number-number.ensures.below, c.number-number.ensures.value)) c.requires.targets c.requires.before c.requires.first.0 c.args.mover c.args.on (c.number.result - 8)
    c.with_digit-west.result.bits c.with_digit.result.bits _ _ c.requires.first.1 (sym c.rank.ensures.value ∙ c.if-rank-taking_rank.false ∙ c.taking_rank.ensures) (ap (λ n. n - 8) c.number.ensures.value)
    (λ h. lt-ltb 0 c.file-file.result (omega (arith, h, c.file-file.ensures.value))) (λ h. lt-ltb c.file-file.result 7 (omega (arith, h, c.file-file.ensures.value))) c.with_digit-west.ensures c.with_digit.ensures
