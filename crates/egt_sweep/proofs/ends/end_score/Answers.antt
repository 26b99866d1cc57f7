use Rattle.std.proofs.Common.{inl, inr, refl, subst}
use Rattle.egt_sweep.specs.FillPrelude.{Setup, IsAtEnd}
use Rattle.egt_sweep.proofs.ends.end_score.Goals as goal

pub returns-in-3 : goal.returns-in-3
returns-in-3 c = λ p spells.
    let same = c.codes_spell_one_position.ensures c.args.class c.args.code c.in_ok-position.position p c.in_ok-position.ensures.spells spells in
    (c.in_ok-entry_without_move.field-0, subst (λ (q : Setup). IsAtEnd q c.in_ok-entry_without_move.field-0) same c.in_ok-entry_without_move.ensures, inl (c.in-3.is, refl))

pub returns-in-1 : goal.returns-in-1
returns-in-1 c = λ p spells.
    let same = c.codes_spell_one_position.ensures c.args.class c.args.code c.in_ok-position.position p c.in_ok-position.ensures.spells spells in
    (c.in_ok-entry_without_move.field-0, subst (λ (q : Setup). IsAtEnd q c.in_ok-entry_without_move.field-0) same c.in_ok-entry_without_move.ensures, inr (c.in-1.is, refl))
