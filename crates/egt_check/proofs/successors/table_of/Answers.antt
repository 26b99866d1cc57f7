use Rattle.std.proofs.Common.{◌≡◌, eqb, false, ap, sym, subst, ◌∙◌, IsSome}
use Rattle.egt_check.specs.Prelude.{option_map, eqb-true, table_at}
use Rattle.egt_check.proofs.TableFound.{beside_own, beside_other, some_before}
use Rattle.egt_check.proofs.successors.table_of.Goals as goal

pub unwrap-requires : goal.unwrap-requires
unwrap-requires c =
    let tables = table_at c.args.library.now in
    let other = subst (λ k. eqb c.args.class k ≡ false) c.class.ensures.class (sym c.eq.ensures ∙ c.if-eq.false) in
    some_before _ c.get.result _ c.get.ensures.is (subst IsSome (beside_other tables c.args.table.now _ other) c.requires)

pub returns-then-eq : goal.returns-then-eq
returns-then-eq c =
    let own = eqb-true _ _ (sym c.eq.ensures ∙ c.if-eq.true) ∙ c.class.ensures.class in
    record {
      found = beside_own (table_at c.args.library.now) c.args.table.now _ own;
      class = sym own;
    }

pub returns-else-eq : goal.returns-else-eq
returns-else-eq c =
    let tables = table_at c.args.library.now in
    let other = subst (λ k. eqb c.args.class k ≡ false) c.class.ensures.class (sym c.eq.ensures ∙ c.if-eq.false) in
    let shelved = rw c.unwrap.ensures at c.get.ensures.shelved in
    record {
      found = beside_other tables c.args.table.now _ other ∙ sym c.get.ensures.is ∙ ap (option_map (λ t. t.now)) c.unwrap.ensures;
      class = shelved.class;
    }
