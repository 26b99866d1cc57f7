use Rattle.std.proofs.Common.{rules, ◌≡◌, ℕ, Some, None, refl, sym, subst, ◌∙◌, set}
use Rattle.egt_check.specs.Prelude.{TableValue, IsLibrary, IsAccepted, table_at}
use Rattle.egt_check.proofs.Shelving.{accepted_is_true, one_more, turned_away}
use Rattle.egt_check.proofs.library.Library.admit.Goals as goal

pub invariant_of-self : goal.invariant_of-self
invariant_of-self c =
    let places = c.self.inside.places.items in
    let t = c.args.table in
    let table = c.class.ensures.table in
    let child = c.children_have_smaller_numbers.ensures.smaller in
    let accepted = subst (λ v. IsAccepted (table_at v) t) (sym c.self.view_is) (c.in-Ok.ensures.exact.0 refl) in
    let free : table_at places t.class ≡ None = search rules in
    let holds = accepted_is_true child places c.self.invariant t table c.rules_are_kept_by_true_tables_alone.ensures accepted in
    subst (λ (u : TableValue). IsLibrary (set places c.from-place.result (Some u))) (sym c.new.ensures)
    (subst (λ (i : ℕ). IsLibrary (set places i (Some t))) (sym (c.from-place.ensures ∙ c.number.ensures.value ∙ c.class.ensures.class))
    (one_more child places c.self.invariant t table free holds accepted.children accepted.reach_children))

pub returns-in-Err-clause-reason : goal.returns-in-Err-clause-reason
returns-in-Err-clause-reason c =
    let free : table_at c.args.self.now c.args.table.class ≡ None = search rules in
    turned_away (table_at c.args.self.now) c.args.table c.in-Err.reject free c.in-Err.ensures.reason
