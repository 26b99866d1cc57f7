use Rattle.std.proofs.Common.{ℕ, List, sym, subst}
use Rattle.egt_sweep.specs.FillPrelude.{ShelfMen, Column, AreChildren, HoldsExits, column_of, children_there}
use Rattle.egt_sweep.proofs.BegunItems.{begun_item}
use Rattle.egt_sweep.proofs.beginning.item_of.Goals as goal

pub exits-requires : goal.exits-requires
exits-requires c =
    let f = c.args.f.now in
    let men = c.args.men.now in
    subst (λ (column : Column). AreChildren column f.children men) (sym c.column_of.ensures)
    (subst (λ (m : ShelfMen). AreChildren (column_of f.part) f.children m) (sym c.requires.men) (children_there f.men men.white men.black (column_of f.part) f.children c.requires.filling.children))

pub returns-clause-item : goal.returns-clause-item
returns-clause-item c = λ t.
    let f = c.args.f.now in
    let men = c.args.men.now in
    let holds = subst (λ (column : Column). HoldsExits column f.children men c.args.side c.exits.new.out) c.column_of.ensures (c.exits.ensures c.if-not-exits.false) in
    begun_item f t men _ c.requires.men c.requires.room
    (subst (λ (block : List (List ℕ)). HoldsExits (column_of f.part) f.children men c.args.side block) (sym c.in_ok-new.ensures.ok) holds)
    (c.begin_at.ensures.plain c.if-not-begin_at.false) (c.begin_at.ensures.targeted c.if-not-begin_at.false) c.no_ends.ensures c.no_ends-2.ensures
