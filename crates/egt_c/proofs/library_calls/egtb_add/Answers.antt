use Rattle.std.proofs.Common.{IfSome, ap, refl}
use Rattle.egt_c.specs.Prelude.{arc_value, Adds, Places, contents}
use Rattle.egt_c.proofs.Kept.{if_held}
use Rattle.egt_c.proofs.library_calls.egtb_add.Goals as goal

pub returns-clause-adds : goal.returns-clause-adds
returns-clause-adds c =
    let added = c.add_owned-fault in
    let after = contents c.put.new.self in
    let lent = arc_value c.as_mut.result.now in
    let left = arc_value added.new.owner in
    if_held _ (arc_value c.in-Some.boxed.value) lent (λ (b : Places). IfSome after (λ (a : Places). Adds c.args.class_number c.args.bytes.now added.result b a)) c.in-Some.ensures.taken (ap arc_value c.as_mut.ensures.value)
    (if_held after left left (λ (a : Places). Adds c.args.class_number c.args.bytes.now added.result lent a) c.put.ensures refl added.ensures)
