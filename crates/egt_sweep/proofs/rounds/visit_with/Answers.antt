use Rattle.std.proofs.Common.{◌≡◌, ◌≢◌, ◌∙◌, List, Option, length, ap, subst, sym}
use Rattle.egt_sweep.specs.FillPrelude.{other_side, AreAllKept, BlockKey, Mended, TableValue}
use Rattle.egt_sweep.specs.declared.mending.Mended.TheVariants as mends
use Rattle.egt_sweep.proofs.KeysForgotten.{forgotten_at, near_after}
use Rattle.egt_sweep.proofs.rounds.visit_with.Goals as goal

-- what a look came to is one thing
due_told : (m : Mended) → m ≡ mends.Due → m ≢ mends.Untold
due_told m is told = cc

put_told : (m : Mended) → m ≡ mends.Put → m ≢ mends.Untold
put_told m is told = cc

pub returns-in-Due-clause-read : goal.returns-in-Due-clause-read
returns-in-Due-clause-read c = λ told.
    subst (λ (t : TableValue). AreAllKept c.args.f.now t (other_side c.args.item.now.side) c.look.new.read) (sym (c.look.ensures.due c.in-Due.is)) (c.look.ensures.kept (due_told c.look.result c.in-Due.is))

pub returns-in-Some-clause-read : goal.returns-in-Some-clause-read
returns-in-Some-clause-read c = λ told.
    let item = c.args.item.now in
    let same = c.look.ensures.same in
    let value = c.deref_mut-in-Put.ensures.value in
    let long : length c.forget_read.new.others ≡ length c.deref_mut-in-Put.result.now = search in
    near_after c.args.f.now item.white item.black item.side (other_side item.side) c.args.table.now c.look.new.table c.look.new.read c.forget_read.new.others c.requires.table.class_is c.look.ensures.mended
    (forgotten_at c.args.f.now.class item.side (other_side item.side) c.forget_read.new.others same.white same.black value (c.forget_read.ensures.others item.side))
    (long ∙ ap (λ (keys : List (Option BlockKey)). length keys) value) (c.look.ensures.kept (put_told c.look.result c.in-Put.is))

pub returns-in-Some-clause-own : goal.returns-in-Some-clause-own
returns-in-Some-clause-own c = λ told.
    let item = c.args.item.now in
    let same = c.look.ensures.same in
    let value = c.deref_mut.ensures.value in
    let long : length c.forget_read.new.same ≡ length c.deref_mut.result.now = search in
    near_after c.args.f.now item.white item.black item.side item.side c.args.table.now c.look.new.table c.args.own.now c.forget_read.new.same c.requires.table.class_is c.look.ensures.mended
    (forgotten_at c.args.f.now.class item.side item.side c.forget_read.new.same same.white same.black value (c.forget_read.ensures.same item.side))
    (long ∙ ap (λ (keys : List (Option BlockKey)). length keys) value) c.requires.own
