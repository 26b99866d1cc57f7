use Rattle.std.proofs.Common.{◌≡◌, None, sym, ap, ◌∙◌, subst}
use Rattle.egt_c.specs.Prelude.{arc_value, table_at, Opened, Places}
use Rattle.egt_c.proofs.library_calls.egtb_open.Goals as goal

pub returns : goal.returns
returns c =
    let boxed = c.in-Ok-new-2.boxed in
    let is = ap arc_value c.in-Ok-new-2.ensures.ok ∙ c.in-Ok-new.ensures.ok in
    Opened (arc_value boxed.value) c.none.ensures c.put.ensures (λ k. subst (λ (places : Places). table_at places k ≡ None) (sym is) (c.in-Ok.ensures.empty k))
