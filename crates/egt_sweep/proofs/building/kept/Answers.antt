use Rattle.std.proofs.Common.{◌≡◌, ℕ, Result, Ok, Err, IfOk, IfErr, refl, sym, subst, inl}
use Rattle.egt_sweep.specs.Prelude.{Tables, table_at, HasChildren, HasReachChildren, HasTrueChildren, TableValue}
use Rattle.egt_sweep.specs.Prelude.{AllWithinLimit, IsBuilt, IsNotBuilt, SomeAboveLimit, BuildFault}
use Rattle.egt_sweep.specs.declared.build_fault.BuildFault.TheVariants as faults
use Rattle.egt_sweep.proofs.TablesFilled.{true_is_accepted}
use Rattle.egt_sweep.proofs.TrueChildren.{true_children}
use Rattle.egt_sweep.proofs.building.kept.Goals as goal

built : (r : Result TableValue BuildFault) (tables : Tables) (t : TableValue) (c limit : ℕ) → IfOk r (λ u. u ≡ t) → IfOk r (λ _. AllWithinLimit t.class limit) → t.class ≡ c → (AllWithinLimit c limit → IsBuilt tables c limit t) → IfOk r (IsBuilt tables c limit)
built (Ok u) tables t c limit same within class is = subst (IsBuilt tables c limit) (sym same) (is (subst (λ (k : ℕ). AllWithinLimit k limit) class within))
built (Err fault) tables t c limit same within class is = tt

refused : (r : Result TableValue BuildFault) (tables : Tables) (d c limit : ℕ) → IfErr r (λ fault. fault ≡ faults.TooDeep limit) → IfErr r (λ _. SomeAboveLimit d limit) → d ≡ c → HasChildren tables c → HasReachChildren tables c → IfErr r (IsNotBuilt tables c limit)
refused (Ok u) tables d c limit is above class children reach_children = tt
refused (Err fault) tables d c limit is above class children reach_children =
    subst (IsNotBuilt tables c limit) (sym is) (children, reach_children, inl (refl, subst (λ (k : ℕ). SomeAboveLimit k limit) class above))

pub returns-clause-built : goal.returns-clause-built
returns-clause-built c =
    let t = c.args.table in
    let tables = table_at c.args.library.now in
    let children = true_children tables c.args.class c.children_are_true.ensures c.requires.children in
    built c.within_limit.result tables t c.args.class c.args.limit c.within_limit.ensures.same c.within_limit.ensures.within c.requires.class (λ within. record {
      class = c.requires.class;
      reach = c.requires.reach;
      true = c.requires.truth;
      accepted = true_is_accepted c.laws.ensures tables t c.class-class.ensures.table (subst (HasTrueChildren tables) (sym c.requires.class) children)
          (λ there. subst (HasReachChildren tables) (sym c.requires.class) c.requires.reach_children) (subst (HasChildren tables) (sym c.requires.class) c.requires.children) c.rules_are_kept_by_true_tables_alone.ensures c.requires.truth;
      within = within;
    })

pub returns-clause-refused : goal.returns-clause-refused
returns-clause-refused c = refused c.within_limit.result (table_at c.args.library.now) c.args.table.class c.args.class c.args.limit c.within_limit.ensures.fault c.within_limit.ensures.above c.requires.class c.requires.children c.requires.reach_children
