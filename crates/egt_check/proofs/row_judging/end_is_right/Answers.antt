use Rattle.std.proofs.Common.{◌≡◌, ℕ, ◌+◌, ◌/◌, ◌∙◌, arith, sym, subst}
use Rattle.egt_check.specs.Prelude.{eqb-true, Setup, Spells, Mate, Zeroing, Part, near_entry, IsRightEnd, IsRightEndOf}
use Rattle.egt_check.specs.Prelude.{IsRightReachEnd, IsAtEnd, reach_at}
use Rattle.egt_check.proofs.row_judging.end_is_right.Goals as goal

-- checkmate and stalemate as they are read
read_end : (p : Setup) (x reach : ℕ) → IsAtEnd p x → reach ≡ x / 2 + 1 → near_entry reach ≡ x
read_end p x reach h is = grind arith

pub returns-then-entries-entry : goal.returns-then-entries-entry
returns-then-entries-entry c = λ same.
    let t = c.args.table.now in
    let code = c.args.code in
    let here = c.in-Some.position in
    let entry = c.in-Some-entry_without_move.entry in
    let spelled = subst (λ k. Spells k code here) c.class.ensures.class c.in-Some.ensures.spells in
    let right : IsRightEnd t code = λ p spells. (
      entry,
      subst (λ q. IsAtEnd q entry) (c.codes_spell_one_position.ensures t.class code here p spelled spells) c.in-Some-entry_without_move.ensures,
      sym (c.entries_at-entries.ensures Mate) ∙ c.if-entries-entry.true,
      sym (c.entries_at-entries.ensures Zeroing) ∙ eqb-true c.entries_at-entries.result.zeroing entry same,
    ) in
    subst (λ (part : Part). IsRightEndOf part t code) (sym c.in-Values.is) right

pub returns-in-Reach : goal.returns-in-Reach
returns-in-Reach c = λ same.
    let t = c.args.table.now in
    let code = c.args.code in
    let here = c.in-Some.position in
    let entry = c.in-Some-entry_without_move.entry in
    let spelled = subst (λ k. Spells k code here) c.class.ensures.class c.in-Some.ensures.spells in
    let right : IsRightReachEnd t code = λ p spells. (
      entry,
      subst (λ q. IsAtEnd q entry) (c.codes_spell_one_position.ensures t.class code here p spelled spells) c.in-Some-entry_without_move.ensures,
      read_end here entry (reach_at t code) c.in-Some-entry_without_move.ensures (sym c.entry.ensures ∙ eqb-true c.entry.result (entry / 2 + 1) same),
    ) in
    subst (λ (part : Part). IsRightEndOf part t code) (sym c.in-Reach.is) right
