use Rattle.std.proofs.Common.{ℕ, Err, refl, sym, ap, subst}
use Rattle.egt_sweep.specs.Prelude.{AreNears, IsTable, Tables, table_at, HasTrueChildren, IsTrueTable, HasNoFalseChild}
use Rattle.egt_sweep.specs.Prelude.{IsMigrated, SomeReachesFar, reach_game, reaches_below}
use Rattle.egt_sweep.proofs.TablesFilled.{kept_is_true}
use Rattle.egt_sweep.proofs.JoinedTables.{NearsTell, joined_is_accepted, joined_reach}
use Rattle.egt_sweep.proofs.TrueChildren.{true_children}
use Rattle.egt_sweep.proofs.migrating.solved.Goals as goal

pub returns-in-Err-TooDeep-clause-reason : goal.returns-in-Err-TooDeep-clause-reason
returns-in-Err-TooDeep-clause-reason c =
    (c.requires.lacks, c.requires.reach_children, subst SomeReachesFar c.class-class.ensures.class (c.in-Err-TooDeep.ensures.too_deep (ap Err c.in-Err-TooDeep.field-0-is)))

pub returns-in-Ok-with_reach-clause-migrated : goal.returns-in-Ok-with_reach-clause-migrated
returns-in-Ok-with_reach-clause-migrated c =
    let tables : Tables = table_at c.args.library.now in
    let old = c.args.table in
    let nears = c.in-Ok.nears in
    let laws = c.laws.ensures in
    let is : IsTable old = c.class-class.ensures.table in
    let below = is.class_in in
    let lacked = c.requires.lacks in
    let reach_children = c.requires.reach_children in
    let children : HasTrueChildren tables old.class = true_children tables old.class (subst (HasNoFalseChild tables) c.class-class.ensures.class c.children_are_true.ensures) c.requires.accepted.children in
    let are : AreNears (reach_game tables old.class) nears = subst (λ (class : ℕ). AreNears (reach_game tables class) nears) c.class-class.ensures.class c.in-Ok.ensures.nears in
    let rules = c.rules_are_kept_by_true_tables_alone.ensures in
    let truth : IsTrueTable old = kept_is_true laws tables old is children (λ there. reach_children) rules c.requires.accepted.rules in
    let near : NearsTell tables old.class = λ i p number ok index found. c.reach_numbers_are_the_nearest_mates.ensures.numbers tables old.class i p number below (reaches_below tables old.class children reach_children) ok index found in
    subst (IsMigrated tables old) (sym c.in-Ok-with_reach.ensures.table) (record {
      lacked = lacked;
      reach_children = reach_children;
      class = refl;
      mate = refl;
      zeroing = refl;
      reach = refl;
      true = joined_reach laws tables old below nears are near;
      accepted = joined_is_accepted laws tables old below nears are near is truth c.requires.accepted.children children reach_children rules;
    })
