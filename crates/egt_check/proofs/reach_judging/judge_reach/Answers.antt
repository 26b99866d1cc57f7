use Rattle.std.proofs.Common.{ℕ, false, sym, subst}
use Rattle.egt_check.specs.Prelude.{Setup, Spells, IsVoid, FindsReach, table_at, beside, reach_judged}
use Rattle.egt_check.proofs.reach_judging.judge_reach.Goals as goal

pub reach_due-requires-clause-own : goal.reach_due-requires-clause-own
reach_due-requires-clause-own c =
    let spelled = subst (λ (k : ℕ). Spells k c.args.index c.in-Some.position) c.class.ensures.class c.in-Some.ensures.spells in
    (false, c.spelled_positions_are_of_the_class.ensures c.args.table.now.class c.args.index c.in-Some.position spelled)

pub returns-in-Some : goal.returns-in-Some
returns-in-Some c =
    let t = c.args.table.now in
    let i = c.args.index in
    let p = c.in-Some.position in
    let class = c.class.ensures.class in
    let spelled = subst (λ (k : ℕ). Spells k i p) class c.in-Some.ensures.spells in
    let index = λ (void : IsVoid t.class i). subst (λ (k : ℕ). IsVoid k i) (sym class) void p spelled.admissible c.in-Some.ensures.index in
    let alone = λ (q : Setup) (other : Spells t.class i q). c.codes_spell_one_position.ensures t.class i q p other spelled in
    reach_judged (beside (table_at c.args.library.now) t) t i p spelled alone index c.reach_due.result c.reach_due.ensures c.judge_entry.result
    (subst (λ (x : ℕ). FindsReach x c.reach_due.result c.judge_entry.result) c.entry-entry.ensures c.judge_entry.ensures)
