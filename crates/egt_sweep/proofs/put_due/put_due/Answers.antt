use Rattle.std.proofs.Common.{◌≡◌, ℕ, List, Option, Vec, IfSome, sym, subst}
use Rattle.egt_sweep.specs.FillPrelude.{All, AreNumbered, IsItem, IsUnderWay, Item}
use Rattle.egt_sweep.proofs.BegunWay.{begun_under_way}
use Rattle.egt_sweep.proofs.put_due.put_due.Goals as goal

pub put_all_due-requires-clause-under : goal.put_all_due-requires-clause-under
put_all_due-requires-clause-under c =
    let f = c.args.f.now in
    let t = c.args.table.now in
    let places = c.in-Some-2.places.items in
    let marks = c.in_ok-marks.marks in
    subst (λ (l : List Item). IsUnderWay f t l marks) (sym c.deref_mut.ensures.value)
    (begun_under_way f t c.in-Some.items.items places marks (subst (λ (o : Option (Vec Item _)). IfSome o (λ v. All (IsItem f t) v.items)) c.in-Some.is c.in_ok-items.ensures.items) (subst (λ (o : Option (Vec Item _)). IfSome o (λ v. All (λ (item : Item). item.looked ≡ 0) v.items)) c.in-Some.is c.in_ok-items.ensures.looked)
    (subst (λ (l : List Item). AreNumbered l places) c.deref.ensures.value (subst (λ (o : Option (Vec ℕ _)). IfSome o (λ v. AreNumbered c.deref.result.now v.items)) c.in-Some-2.is c.in_ok-places.ensures.numbers)) c.in_ok-marks.ensures.long c.in_ok-marks.ensures.none)
