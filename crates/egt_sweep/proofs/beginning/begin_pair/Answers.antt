use Rattle.std.proofs.Common.{Option, IfSome, subst}
use Rattle.egt_sweep.specs.FillPrelude.{All-push, All-same, TableValue, IsItem, Item}
use Rattle.egt_sweep.proofs.beginning.begin_pair.Goals as goal

pub returns-clause-items : goal.returns-clause-items
returns-clause-items c =
    let f = c.args.f.now in
    let t = c.args.table.now in
    let is = subst (λ (some : Option Item). IfSome some (λ item. (u : TableValue) → IsItem f u item)) c.in-Some-2.is c.in_ok-item.ensures.item in
    All-same (IsItem f t) c.push.new.self.items _ c.in_ok-push.ensures.items (All-push (IsItem f t) c.args.items.now.items c.in-Some-2.item c.requires.items (is t))
