use Rattle.std.proofs.Common.{ℕ, false, sym, subst}
use Rattle.egt_check.specs.Prelude.{Setup, Spells, IsVoid, Mate, Zeroing, Finds, FindsVoid, table_at, beside, entry_at}
use Rattle.egt_check.proofs.FirstRule.{judged, void_judged}
use Rattle.egt_check.proofs.judging.judge.Goals as goal

pub due-due-requires-clause-own : goal.due-due-requires-clause-own
due-due-requires-clause-own c =
    let spelled = subst (λ (k : ℕ). Spells k c.args.index c.in-Some.position) c.class.ensures.class c.in-Some.ensures.spells in
    (false, c.spelled_positions_are_of_the_class.ensures c.args.table.now.class c.args.index c.in-Some.position spelled)

pub returns-in-None : goal.returns-in-None
returns-in-None c =
    let tables = beside (table_at c.args.library.now) c.args.table.now in
    let void = subst (λ (k : ℕ). IsVoid k c.args.index) c.class.ensures.class c.in-None.ensures.void in
    record {
      mate = void_judged tables c.args.table.now c.args.index Mate void c.judge_voids.result.0 (subst (λ (x : ℕ). FindsVoid x c.judge_voids.result.0) (c.entries_at-entries.ensures Mate) c.judge_voids.ensures.mate);
      zeroing = void_judged tables c.args.table.now c.args.index Zeroing void c.judge_voids.result.1 (subst (λ (x : ℕ). FindsVoid x c.judge_voids.result.1) (c.entries_at-entries.ensures Zeroing) c.judge_voids.ensures.zeroing);
    }

pub returns-in-Some : goal.returns-in-Some
returns-in-Some c =
    let t = c.args.table.now in
    let i = c.args.index in
    let p = c.in-Some.position in
    let tables = beside (table_at c.args.library.now) t in
    let class = c.class.ensures.class in
    let spelled = subst (λ (k : ℕ). Spells k i p) class c.in-Some.ensures.spells in
    let index = λ (void : IsVoid t.class i). subst (λ (k : ℕ). IsVoid k i) (sym class) void p spelled.admissible c.in-Some.ensures.index in
    let alone = λ (q : Setup) (other : Spells t.class i q). c.codes_spell_one_position.ensures t.class i q p other spelled in
    let mate = c.entries_at-entries.ensures Mate in
    record {
      mate = judged tables t i p spelled alone index Mate c.due-due.result.mate (c.due-due.ensures Mate) c.judge_entries.result.0
          (subst (λ (x : ℕ). Finds Mate x x c.due-due.result.mate c.judge_entries.result.0) mate c.judge_entries.ensures.mate);
      zeroing = judged tables t i p spelled alone index Zeroing c.due-due.result.zeroing (c.due-due.ensures Zeroing) c.judge_entries.result.1
          (subst (λ (x : ℕ). Finds Zeroing (entry_at t Mate i) x c.due-due.result.zeroing c.judge_entries.result.1) (c.entries_at-entries.ensures Zeroing)
          (subst (λ (x : ℕ). Finds Zeroing x c.entries_at-entries.result.zeroing c.due-due.result.zeroing c.judge_entries.result.1) mate c.judge_entries.ensures.zeroing));
    }
