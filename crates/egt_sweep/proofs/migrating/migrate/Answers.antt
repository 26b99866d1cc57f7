use Rattle.std.proofs.Common.{sym, subst}
use Rattle.egt_sweep.specs.Prelude.{table_at, HasChildren, HasReachChildren, HasTrueChildren, HasNoFalseChild}
use Rattle.egt_sweep.proofs.TablesFilled.{kept_is_true, true_is_accepted}
use Rattle.egt_sweep.proofs.JoinedTables.{not_there}
use Rattle.egt_sweep.proofs.TrueChildren.{true_children}
use Rattle.egt_sweep.proofs.migrating.migrate.Goals as goal

pub filled_reach-requires-clause-truth : goal.filled_reach-requires-clause-truth
filled_reach-requires-clause-truth c =
    let tables = table_at c.args.library.now in
    let old = c.args.table in
    let children : HasTrueChildren tables old.class = true_children tables old.class (subst (HasNoFalseChild tables) c.class-class.ensures.class c.children_are_true.ensures) c.requires.children in
    kept_is_true c.laws.ensures tables old c.class-class.ensures.table children c.requires.reach_children c.rules_are_kept_by_true_tables_alone.ensures c.requires.rules

pub returns-in-NoMemory-clause-reason : goal.returns-in-NoMemory-clause-reason
returns-in-NoMemory-clause-reason c = (
  not_there c.args.table.reach c.has_reach.result c.has_reach.ensures c.if-has_reach.false,
  subst (HasReachChildren (table_at c.args.library.now)) c.class-class.ensures.class c.in_default.ensures.none,
)

pub returns-in-Filled-clause-migrated : goal.returns-in-Filled-clause-migrated
returns-in-Filled-clause-migrated c =
    let tables = table_at c.args.library.now in
    let old = c.args.table in
    let new = c.in-Filled.table in
    let laws = c.laws.ensures in
    let (with, truth) = c.in-Filled.ensures in
    let class = with.class in
    let reach_children : HasReachChildren tables old.class = subst (HasReachChildren tables) c.class-class.ensures.class c.in_default.ensures.none in
    let children : HasTrueChildren tables old.class = true_children tables old.class (subst (HasNoFalseChild tables) c.class-class.ensures.class c.children_are_true.ensures) c.requires.children in
    record {
      lacked = not_there old.reach c.has_reach.result c.has_reach.ensures c.if-has_reach.false;
      reach_children = reach_children;
      class = class;
      mate = with.mate;
      zeroing = with.zeroing;
      reach = with.reach;
      true = truth.reach with.reach;
      accepted = true_is_accepted laws tables new c.class-class-in-Filled.ensures.table (subst (HasTrueChildren tables) (sym class) children) (λ there. subst (HasReachChildren tables) (sym class) reach_children)
          (subst (HasChildren tables) (sym class) c.requires.children) c.rules_are_kept_by_true_tables_alone.ensures truth;
    }
