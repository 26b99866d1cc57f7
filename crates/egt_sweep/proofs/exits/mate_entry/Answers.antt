use Rattle.std.proofs.Common.{◌≡◌, ℕ, ◌<◌, Option, IfSome, sym, subst, ◌∙◌}
use Rattle.egt_sweep.specs.Prelude.{false≢true, Mate, TableValue, table_at, entry_at, known, Knows, mate_table}
use Rattle.egt_sweep.specs.Prelude.{Objective}
use Rattle.egt_sweep.proofs.OutOfClass.{beside_other}
use Rattle.egt_sweep.proofs.OwnColumn.{own_bound, own_shows}
use Rattle.egt_sweep.proofs.Staying.{tests_equal}
use Rattle.egt_sweep.proofs.exits.mate_entry.Goals as goal

pub bounds-entries-index : goal.bounds-entries-index
bounds-entries-index c =
    let same = (tests_equal c.eq.result c.args.class c.args.own c.eq.ensures).0 c.if-eq.true in
    own_bound c.laws.ensures c.args.own c.args.class c.args.index c.in-Zeroing.ranks.now c.entries.result.now (subst (Knows (table_at c.args.library.now) c.args.own) c.in-Zeroing.is c.requires.knows) same c.requires.indexed c.entries.ensures

pub returns-in-Mate-clause-is : goal.returns-in-Mate-clause-is
returns-in-Mate-clause-is c =
    subst (λ (objective : Objective). IfSome (known (table_at c.args.library.now) c.args.own objective c.args.class) (λ t. c.table_entry.result ≡ entry_at t Mate c.args.index)) (sym c.in-Mate.is) c.table_entry.ensures.is

pub returns-in-Reach-clause-is : goal.returns-in-Reach-clause-is
returns-in-Reach-clause-is c =
    subst (λ (objective : Objective). IfSome (known (table_at c.args.library.now) c.args.own objective c.args.class) (λ t. c.near_entry.result ≡ entry_at t Mate c.args.index)) (sym c.in-Reach.is) c.near_entry.ensures.is

pub returns-then-eq-clause-shows : goal.returns-then-eq-clause-shows
returns-then-eq-clause-shows c =
    let same = (tests_equal c.eq.result c.args.class c.args.own c.eq.ensures).0 c.if-eq.true in
    let below = subst (λ (n : ℕ). n < 36) c.number-number.ensures.value c.number-number.ensures.below in
    own_shows c.laws.ensures c.args.own c.args.class c.args.index c.in-Zeroing.ranks.now c.entries.result.now below (subst (Knows (table_at c.args.library.now) c.args.own) c.in-Zeroing.is c.requires.knows) same c.requires.indexed c.entries.ensures

pub returns-else-eq-clause-is : goal.returns-else-eq-clause-is
returns-else-eq-clause-is c =
    let tables = table_at c.args.library.now in
    let other = beside_other tables (mate_table c.args.own c.in-Zeroing.ranks.now) c.args.class (λ e. false≢true (sym c.if-eq.false ∙ (tests_equal c.eq.result c.args.class c.args.own c.eq.ensures).1 e)) in
    let here = subst (λ (o : Option TableValue). IfSome o (λ t. c.table_entry-else-eq.result ≡ entry_at t Mate c.args.index)) (sym other) c.table_entry-else-eq.ensures.is in
    subst (λ (objective : Objective). IfSome (known tables c.args.own objective c.args.class) (λ t. c.table_entry-else-eq.result ≡ entry_at t Mate c.args.index)) (sym c.in-Zeroing.is) here
